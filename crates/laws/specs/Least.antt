-- Of the numbers below n that pass a test, the one that stands before the others. What follows from its laws stands in proofs/Least.antt.
-- Assumes nothing.
use Rattle.std.specs.Prelude.{◌≡◌, Bool, true, false, cond, ℕ, zero, suc, ◌+◌, ◌-◌, ◌≤◌, ◌<◌, ltb, eqb, Option, Some, None}
use Rattle.std.proofs.Math.Path.{refl}
use Rattle.std.proofs.Common.{sym, ap, arith, add-zero, eqb-true, le-ltb}
use Rattle.std.proofs.Math.Bool.{So}
use Rattle.std.proofs.lemmas.Bool.{false≢true}
use Rattle.std.proofs.Math.Numerals.{add-one}
use Rattle.laws.specs.Tests.{No, refuted, to_no}
use Rattle.laws.specs.Walk.{over, over_ind, below_suc}
use Rattle.laws.specs.Order.{Strict}

-- what was found so far, or k where it passes and stands before that
abbrev pub sooner : (ℕ → ℕ → Bool) → Option ℕ → Bool → ℕ → Option ℕ
sooner before (Some j) true k = cond (before k j) (Some k) (Some j)
sooner before (Some j) false k = Some j
sooner before None true k = Some k
sooner before None false k = None

-- the four ways of one turn
module _ (before : ℕ → ℕ → Bool) (k : ℕ) where
  pub sooner_skip : (x : Option ℕ) (b : Bool) → No b → sooner before x b k ≡ x
  sooner_skip (Some j) b e = rw e
  sooner_skip None b e = rw e

  pub sooner-first : (x : Option ℕ) (b : Bool) → So b → x ≡ None → sooner before x b k ≡ Some k
  sooner-first x b e q = rw (q, e)

  pub sooner_wins : (x : Option ℕ) (b : Bool) (j : ℕ) → So b → x ≡ Some j → So (before k j) → sooner before x b k ≡ Some k
  sooner_wins x b j e q w = rw (q, e, w)

  pub sooner_stays : (x : Option ℕ) (b : Bool) (j : ℕ) → So b → x ≡ Some j → No (before k j) → sooner before x b k ≡ Some j
  sooner_stays x b j e q w = rw (q, e, w)

-- of the numbers below n that pass p, the one before the others
unfoldable pub least : (ℕ → Bool) → (ℕ → ℕ → Bool) → ℕ → Option ℕ
least p before n = over (λ k found. sooner before found (p k) k) None n

-- number k is what was found
abbrev pub is_at : ℕ → Option ℕ → Bool
is_at k (Some j) = eqb k j
is_at k None = false

pub is_at→ : (k : ℕ) (x : Option ℕ) → So (is_at k x) → x ≡ Some k
is_at→ k (Some j) h = ap Some (sym (eqb-true k j h))
is_at→ k None h = absurd (false≢true h)

-- what a finding says
abbrev pub Least : (ℕ → Bool) → (ℕ → ℕ → Bool) → ℕ → Option ℕ → Type 0
Least p before n (Some k) = (k < n) × So (p k) × ((j : ℕ) → j < n → So (p j) → No (before j k))
Least p before n None = (j : ℕ) → j < n → So (p j) → ⊥

-- what is found is below n
abbrev pub Below : ℕ → Option ℕ → Type 0
Below n (Some k) = k < n
Below n None = Unit {0}

pub below_at : (n : ℕ) (x : Option ℕ) (k : ℕ) → x ≡ Some k → Below n x → k < n
below_at n x k e h = rw e at h

pub below_wider : (k n : ℕ) (x : Option ℕ) → k ≤ n → Below k x → Below n x
below_wider k n (Some j) l h = omega arith
below_wider k n None l h = tt

module _ (p : ℕ → Bool) (before : ℕ → ℕ → Bool) where
  pub least_zero : least p before 0 ≡ None
  unfolding least over
  least_zero = refl

  -- one turn of a loop that searches
  pub least_more : (i : ℕ) → least p before (i + 1) ≡ sooner before (least p before i) (p i) i
  unfolding least over
  least_more i = rw add-one

  below_step : (k : ℕ) (x : Option ℕ) (b : Bool) → Below k x → Below (suc k) (sooner before x b k)
  below_step k (Some j) true h = go (before k j)
    where
      go : (t : Bool) → Below (suc k) (cond t (Some k) (Some j))
      go true = omega arith
      go false = omega arith
  below_step k (Some j) false h = omega arith
  below_step k None true h = omega arith
  below_step k None false h = tt

  pub least_below : (n : ℕ) → Below n (least p before n)
  unfolding least
  least_below n = over_ind _ None Below tt n (λ k l x h. below_step k x (p k) h)

module _ (p : ℕ → Bool) (before : ℕ → ℕ → Bool) (s : Strict before) where
  least_step : (k : ℕ) (x : Option ℕ) (b : Bool) → p k ≡ b → Least p before k x → Least p before (suc k) (sooner before x b k)
  least_step k (Some j) true e h = go (before k j) refl
    where
      go : (t : Bool) → before k j ≡ t → Least p before (suc k) (cond t (Some k) (Some j))
      go true q = (
        omega arith,
        e,
        below_suc (λ (i : ℕ). So (p i) → No (before i k)) k
            (λ i l w. to_no (λ v. refuted (s.transitive i k j v q) (h.2 i l w))) (λ w. s.irreflexive k),
      )
      go false q = (omega (arith, h.0), h.1, below_suc (λ (i : ℕ). So (p i) → No (before i j)) k h.2 (λ w. q))
  least_step k (Some j) false e h = (omega (arith, h.0), h.1, below_suc (λ (i : ℕ). So (p i) → No (before i j)) k h.2 (λ w. absurd (refuted w e)))
  least_step k None true e h = (omega arith, e, below_suc (λ (i : ℕ). So (p i) → No (before i k)) k (λ i l w. absurd (h i l w)) (λ w. s.irreflexive k))
  least_step k None false e h = below_suc (λ (j : ℕ). So (p j) → ⊥) k h (λ w. refuted w e)

  pub least_is : (n : ℕ) → Least p before n (least p before n)
  unfolding least
  least_is n = over_ind _ None (Least p before) (λ j l. absurd (omega arith)) n (λ k l x h. least_step k x (p k) refl h)

-- what is found passes
abbrev pub Passes : (ℕ → Bool) → Option ℕ → Type 0
Passes p (Some k) = So (p k)
Passes p None = Unit {0}

pub least_passes : (p : ℕ → Bool) (before : ℕ → ℕ → Bool) (n : ℕ) → Passes p (least p before n)
unfolding least
least_passes p before n = over_ind _ None (λ k x. Passes p x) tt n (λ k l x h. step k x (p k) refl h)
  where
    step : (k : ℕ) (x : Option ℕ) (b : Bool) → p k ≡ b → Passes p x → Passes p (sooner before x b k)
    step k (Some j) true e h = go (before k j)
      where
        go : (t : Bool) → Passes p (cond t (Some k) (Some j))
        go true = e
        go false = h
    step k (Some j) false e h = h
    step k None true e h = e
    step k None false e h = tt

-- the lowest number that passes
abbrev pub lowest : (ℕ → Bool) → ℕ → Option ℕ
lowest p n = least p ltb n

module _ (p : ℕ → Bool) where
  -- a loop that has found nothing yet, and the turn that finds
  pub lowest-none : (i : ℕ) → lowest p i ≡ None → No (p i) → lowest p (i + 1) ≡ None
  lowest-none i e h = rw (least_more p ltb i, e, h)

  kept : (m d k : ℕ) → k < m → lowest p m ≡ Some k → lowest p (m + d) ≡ Some k
  kept m zero k l e = rw add-zero e
  kept m (suc d) k l e =
      let q : m + suc d ≡ m + d + 1 = omega arith in
      let f : ltb (m + d) k ≡ false = le-ltb (m + d) k (omega arith) in
      rw (q, least_more p ltb (m + d), kept m d k l e) (turn (p (m + d)) f)
    where
      turn : (b : Bool) → ltb (m + d) k ≡ false → sooner ltb (Some k) b (m + d) ≡ Some k
      turn true f = rw f
      turn false f = refl

  pub lowest_hit : (i n : ℕ) → i < n → lowest p i ≡ None → So (p i) → lowest p n ≡ Some i
  lowest_hit i n l e h =
      let q : lowest p (i + 1) ≡ Some i = rw (least_more p ltb i, e, h) in
      let s : (i + 1) + (n - (i + 1)) ≡ n = omega arith in
      rw s at (kept (i + 1) (n - (i + 1)) i (omega arith) q)
