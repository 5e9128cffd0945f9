-- The first of the numbers below n that pass a test: it stands before each other one, or ties with it and is the lower. `least` finds it, number by
-- number; here it is found from parts, in any order: the first of a whole is the first of the firsts of its parts (proofs/First.antt).
-- Assumes nothing.
use Rattle.std.specs.Prelude.{◌≡◌, ◌⊎◌, Bool, true, false, cond, ℕ, suc, ◌≤◌, ◌<◌, ltb, Option, Some, None}
use Rattle.std.proofs.Math.Path.{refl}
use Rattle.std.proofs.Common.{sym, ap, ◌∙◌, inl, inr, ⊎_elim, arith, ltb-true, ltb-false, le-ltb}
use Rattle.std.proofs.Math.Bool.{So}
use Rattle.laws.specs.Tests.{No, refuted, to_no}
use Rattle.laws.specs.Walk.{over_ind, below_suc}
use Rattle.laws.specs.Order.{Ranks, strict_one_way}
use Rattle.laws.specs.Least.{least, sooner, Below}

-- k goes first of k and j
abbrev pub Ahead : (ℕ → ℕ → Bool) → ℕ → ℕ → Type 0
Ahead before k j = So (before k j) ⊎ (No (before j k) × (k ≤ j))

abbrev pub First : (ℕ → Bool) → (ℕ → ℕ → Bool) → ℕ → Option ℕ → Type 0
First p before n (Some k) = (k < n) × So (p k) × ((j : ℕ) → j < n → So (p j) → Ahead before k j)
First p before n None = (j : ℕ) → j < n → So (p j) → ⊥

-- of two findings, the first
abbrev pub first_found : (ℕ → ℕ → Bool) → Option ℕ → Option ℕ → Option ℕ
first_found before None y = y
first_found before (Some j) None = Some j
first_found before (Some j) (Some k) = cond (before k j) (Some k) (cond (before j k) (Some j) (cond (ltb k j) (Some k) (Some j)))

pub first_below : (p : ℕ → Bool) (before : ℕ → ℕ → Bool) (n : ℕ) (x : Option ℕ) → First p before n x → Below n x
first_below p before n (Some k) h = h.0
first_below p before n None h = tt

module _ (before : ℕ → ℕ → Bool) where
  -- the ways that a comparison of two findings goes
  pub first_found-none : (x : Option ℕ) → first_found before x None ≡ x
  first_found-none (Some j) = refl
  first_found-none None = refl

  module _ (x y : Option ℕ) (j k : ℕ) (e : x ≡ Some j) (q : y ≡ Some k) where
    pub first_found_second : So (before k j) → first_found before x y ≡ Some k
    first_found_second h = rw (e, q, h)

    pub first_found-first : No (before k j) → So (before j k) → first_found before x y ≡ Some j
    first_found-first h g = rw (e, q, h, g)

    pub first_found_tie : No (before k j) → No (before j k) → first_found before x y ≡ cond (ltb k j) (Some k) (Some j)
    first_found_tie h g = rw (e, q, h, g)

  -- against a higher number it is the turn of a search
  pub first_found-sooner : (x : Option ℕ) (k : ℕ) → Below k x → first_found before x (Some k) ≡ sooner before x true k
  first_found-sooner (Some j) k h = go (before k j) (before j k)
    where
      go : (a b : Bool) → cond a (Some k) (cond b (Some j) (cond (ltb k j) (Some k) (Some j))) ≡ cond a (Some k) (Some j)
      go true b = refl
      go false true = refl
      go false false = rw (le-ltb k j (omega arith))
  first_found-sooner None k h = refl

  pub first_found_below : (n : ℕ) (x y : Option ℕ) → Below n x → Below n y → Below n (first_found before x y)
  first_found_below n None y h g = g
  first_found_below n (Some j) None h g = h
  first_found_below n (Some j) (Some k) h g = go (before k j) (before j k) (ltb k j)
    where
      go : (a b c : Bool) → Below n (cond a (Some k) (cond b (Some j) (cond c (Some k) (Some j))))
      go true b c = g
      go false true c = h
      go false false true = g
      go false false false = h

module _ (before : ℕ → ℕ → Bool) (w : Ranks before) where
  ahead_self : (k : ℕ) → Ahead before k k
  ahead_self k = inr (w.strict.irreflexive k, omega arith)

  pub ahead_on : (a b c : ℕ) → Ahead before a b → Ahead before b c → Ahead before a c
  ahead_on a b c (inl x) (inl y) = inl (w.strict.transitive a b c x y)
  ahead_on a b c (inl x) (inr y) = inl (⊎_elim (λ v. v) (λ v. absurd (refuted v y.0)) (w.between a c b x))
  ahead_on a b c (inr x) (inl y) = inl (⊎_elim (λ v. absurd (refuted v x.0)) (λ v. v) (w.between b a c y))
  ahead_on a b c (inr x) (inr y) = inr (to_no (λ v. ⊎_elim (λ u. refuted u y.0) (λ u. refuted u x.0) (w.between c b a v)), omega (arith, x.1, y.1))

  ahead_one : (a b : ℕ) → Ahead before a b → Ahead before b a → a ≡ b
  ahead_one a b (inl x) (inl y) = absurd (refuted y (strict_one_way before w.strict a b x))
  ahead_one a b (inl x) (inr y) = absurd (refuted x y.0)
  ahead_one a b (inr x) (inl y) = absurd (refuted y x.0)
  ahead_one a b (inr x) (inr y) = omega (arith, x.1, y.1)

  -- there is one first
  pub first_one : (p : ℕ → Bool) (n : ℕ) (x y : Option ℕ) → First p before n x → First p before n y → x ≡ y
  first_one p n (Some j) (Some k) h g = ap Some (ahead_one j k (h.2 k g.0 g.1) (g.2 j h.0 h.1))
  first_one p n (Some j) None h g = absurd (g j h.0 h.1)
  first_one p n None (Some k) h g = absurd (h k g.0 g.1)
  first_one p n None None h g = refl

  first_step : (p : ℕ → Bool) (k : ℕ) (x : Option ℕ) (b : Bool) → p k ≡ b → First p before k x → First p before (suc k) (sooner before x b k)
  first_step p k (Some j) true e h = go (before k j) refl
    where
      go : (t : Bool) → before k j ≡ t → First p before (suc k) (cond t (Some k) (Some j))
      go true q = (omega arith, e, below_suc (λ (i : ℕ). So (p i) → Ahead before k i) k (λ i l v. ahead_on k j i (inl q) (h.2 i l v)) (λ v. ahead_self k))
      go false q = (omega (arith, h.0), h.1, below_suc (λ (i : ℕ). So (p i) → Ahead before j i) k h.2 (λ v. inr (q, omega (arith, h.0))))
  first_step p k (Some j) false e h = (omega (arith, h.0), h.1, below_suc (λ (i : ℕ). So (p i) → Ahead before j i) k h.2 (λ v. absurd (refuted v e)))
  first_step p k None true e h = (omega arith, e, below_suc (λ (i : ℕ). So (p i) → Ahead before k i) k (λ i l v. absurd (h i l v)) (λ v. ahead_self k))
  first_step p k None false e h = below_suc (λ (j : ℕ). So (p j) → ⊥) k h (λ v. refuted v e)

  -- the least is the first
  pub least_first : (p : ℕ → Bool) (n : ℕ) → First p before n (least p before n)
  unfolding least
  least_first p n = over_ind _ None (First p before) (λ j l. absurd (omega arith)) n (λ k l x h. first_step p k x (p k) refl h)

  pub first_two : (j k : ℕ) → (m : ℕ) × (first_found before (Some j) (Some k) ≡ Some m) × Ahead before m j × Ahead before m k × ((m ≡ j) ⊎ (m ≡ k))
  first_two j k = go (before k j) (before j k) (ltb k j) refl refl refl
    where
      go : (a b c : Bool) → before k j ≡ a → before j k ≡ b → ltb k j ≡ c
          → (m : ℕ) × (cond a (Some k) (cond b (Some j) (cond c (Some k) (Some j))) ≡ Some m) × Ahead before m j × Ahead before m k × ((m ≡ j) ⊎ (m ≡ k))
      go true b c x y z = (k, refl, inl x, ahead_self k, inr refl)
      go false true c x y z = (j, refl, ahead_self j, inl y, inl refl)
      go false false true x y z = (k, refl, inr (y, omega (arith, ltb-true k j z)), ahead_self k, inr refl)
      go false false false x y z = (j, refl, ahead_self j, inr (x, ltb-false k j z), inl refl)

-- tests that agree below n, with orders that agree on what passes, have the same first
pub first_alike : (p q : ℕ → Bool) (before after : ℕ → ℕ → Bool) (n : ℕ) → ((k : ℕ) → k < n → p k ≡ q k)
    → ((j k : ℕ) → j < n → k < n → So (q j) → So (q k) → before j k ≡ after j k) → (x : Option ℕ) → First p before n x → First q after n x
first_alike p q before after n e o (Some k) h =
    let here : So (q k) = sym (e k h.0) ∙ h.1 in (
      h.0,
      here,
      λ j l v. ⊎_elim (λ u. inl (sym (o k j h.0 l here v) ∙ u)) (λ u. inr (sym (o j k l h.0 v here) ∙ u.0, u.1)) (h.2 j l (e j l ∙ v)),
    )
first_alike p q before after n e o None h = λ j l v. h j l (e j l ∙ v)
