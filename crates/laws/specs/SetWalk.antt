-- A walk that visits the members of a set one by one, in any order (the code goes lowest first): a set is a test of numbers, one test says which
-- members are left, and what the walk keeps is said of those that were visited. Three things that such a walk can keep stand below it: the first of
-- what belongs to the visited (`First`), the visited with the lowest key, and a list with a word for each visited.
-- Assumes nothing.
use Rattle.std.specs.Prelude.{ℕ, ◌<◌, ◌≡◌, ◌⊎◌, Bool, false, not, cond, ◌&&◌, ◌||◌, List, eqb, length, get_or, set, replicate, Option, None}
use Rattle.std.proofs.Common.{sym, ap, subst, ◌∙◌, arith, length-set, get_or-set_same, get_or-set_other, eqb-true}
use Rattle.std.proofs.Math.Path.{fun_ext}
use Rattle.std.proofs.Math.Logic.{inl, inr, ⊎_elim}
use Rattle.std.proofs.Math.Bool.{So}
use Rattle.std.proofs.lemmas.Bool.{false≢true, eqb-false}
use Rattle.std.proofs.lemmas.List.{length-replicate, get_or-replicate}
use Rattle.laws.specs.Tests.{No, passes, refuted, to_no, both, join, either, on_left, on_right, denied, deny, same_test, eqb_self, cond_true}
use Rattle.laws.specs.First.{First}

-- Sets -------------------------------------------------------------------------------------------

-- no number, and a set with one more
abbrev pub nobody : ℕ → Bool
nobody q = false

unfoldable pub also : (ℕ → Bool) → ℕ → ℕ → Bool
also v p q = v q || eqb q p

-- the members that are not left
unfoldable pub visited : (ℕ → Bool) → (ℕ → Bool) → ℕ → Bool
visited members left q = members q && not (left q)

module _ (v : ℕ → Bool) (p : ℕ) where
  pub also_self : So (also v p p)
  unfolding also
  also_self = on_right (v p) _ (eqb_self p)

  pub also_kept : (q : ℕ) → So (v q) → So (also v p q)
  unfolding also
  also_kept q h = on_left (v q) _ h

  pub also→ : (q : ℕ) → So (also v p q) → So (v q) ⊎ (q ≡ p)
  unfolding also
  also→ q h = ⊎_elim inl (λ e. inr (eqb-true q p e)) (either (v q) _ h)

  pub also_other : (q : ℕ) → (q ≡ p → ⊥) → also v p q ≡ v q
  also_other q n = same_test (also v p q) (v q) (λ x. ⊎_elim (λ y. y) (λ e. absurd (n e)) (also→ q x)) (also_kept q)

  -- a set that has p, and otherwise what v has
  pub also_is : (t : ℕ → Bool) → So (t p) → ((q : ℕ) → (q ≡ p → ⊥) → t q ≡ v q) → t ≡ also v p
  also_is t h others =
      fun_ext (λ (q : ℕ). ⊎_elim
      (λ x. let e : q ≡ p = eqb-true q p x in rw e (h ∙ sym also_self))
      (λ x. let n = eqb-false q p x in others q n ∙ sym (also_other q n))
      (passes (eqb q p)))

-- The walk ---------------------------------------------------------------------------------------

-- of a set whose members are visited, some are left, and P says of the visited what was kept of them
pub record Walked {S : Type 0} (P : (ℕ → Bool) → S → Type 0) (members left : ℕ → Bool) (s : S) : Type 0 where
  pub part : (q : ℕ) → So (left q) → So (members q)
  pub holds : P (visited members left) s

visited-none : (members : ℕ → Bool) → visited members members ≡ nobody
unfolding visited
visited-none members = fun_ext (λ (q : ℕ). to_no (λ h. let b = both (members q) _ h in refuted b.0 (denied _ b.1)))

visited_more : (members left rest : ℕ → Bool) (p : ℕ) → So (members p) → No (rest p) → ((q : ℕ) → (q ≡ p → ⊥) → rest q ≡ left q)
    → visited members rest ≡ also (visited members left) p
unfolding visited
visited_more members left rest p h out others =
    also_is (visited members left) p (visited members rest) (join (members p) _ h (deny _ out)) (λ q n. ap (λ (b : Bool). members q && not b) (others q n))

visited_all : (members left : ℕ → Bool) → ((q : ℕ) → No (left q)) → visited members left ≡ members
unfolding visited
visited_all members left n = fun_ext (λ (q : ℕ). same_test _ (members q) (λ h. (both (members q) _ h).0) (λ h. join (members q) _ h (deny _ (n q))))

module _ {S : Type 0} {P : (ℕ → Bool) → S → Type 0} {members : ℕ → Bool} where
  -- none is visited yet
  pub walk_none : {s : S} → P nobody s → Walked P members members s
  walk_none {s} h = record { part = λ q x. x; holds = subst (λ (v : ℕ → Bool). P v s) (sym (visited-none members)) h }

  -- one turn: p is visited, and the others that were left still are
  pub walk_more : {left rest : ℕ → Bool} {s t : S} (p : ℕ) → Walked P members left s → So (left p)
      → No (rest p) → ((q : ℕ) → (q ≡ p → ⊥) → rest q ≡ left q) → ((v : ℕ → Bool) → P v s → P (also v p) t) → Walked P members rest t
  walk_more {left} {rest} {s} {t} p w h out others step = record {
    part = λ q x.
        ⊎_elim (λ e. absurd (refuted x (ap rest (eqb-true q p e) ∙ out))) (λ n. w.part q (sym (others q (eqb-false q p n)) ∙ x)) (passes (eqb q p));
    holds = subst (λ (v : ℕ → Bool). P v t) (sym (visited_more members left rest p (w.part p h) out others)) (step (visited members left) w.holds);
  }

  -- none is left
  pub walk_all : {left : ℕ → Bool} {s : S} → ((q : ℕ) → No (left q)) → Walked P members left s → P members s
  walk_all {left} {s} n w = subst (λ (v : ℕ → Bool). P v s) (visited_all members left n) w.holds

-- The first of what belongs to the visited -------------------------------------------------------

-- of the numbers below n that pass a test, each belongs to a port; what was found is the first of those whose port is in v
pub record FirstIn (test : ℕ → Bool) (port : ℕ → ℕ) (before : ℕ → ℕ → Bool) (n : ℕ) (v : ℕ → Bool) (found : Option ℕ) : Type 0 where
  pub first : First (λ k. test k && v (port k)) before n found

module _ {test : ℕ → Bool} {port : ℕ → ℕ} {before : ℕ → ℕ → Bool} {n : ℕ} where
  pub first-nobody : FirstIn test port before n nobody None
  first-nobody = record { first = λ j l h. false≢true (both (test j) false h).1 }

-- The visited with the lowest key ----------------------------------------------------------------

-- s are those of v that can, with the lowest key of all that can; low is that key
pub record LowestOf (can : ℕ → Bool) (key : ℕ → ℕ) (v s : ℕ → Bool) (low : ℕ) : Type 0 where
  pub inside : (q : ℕ) → So (s q) → So (v q) × So (can q) × (key q ≡ low)
  pub beyond : (q : ℕ) → So (v q) → So (can q) → No (s q) → low < key q
  pub some : (q : ℕ) → So (v q) → So (can q) → (r : ℕ) × So (s r)

module _ {can : ℕ → Bool} {key : ℕ → ℕ} where
  pub lowest-nobody : (low : ℕ) → LowestOf can key nobody nobody low
  lowest-nobody low = record { inside = λ q h. absurd (false≢true h); beyond = λ q h. absurd (false≢true h); some = λ q h. absurd (false≢true h) }

  module _ {v s : ℕ → Bool} {low : ℕ} (h : LowestOf can key v s low) (p : ℕ) where
    was : (q : ℕ) → So (s q) → So (also v p q) × So (can q) × (key q ≡ low)
    was q x = let i = h.inside q x in (also_kept v p q i.0, i.1, i.2)

    -- p cannot
    pub lowest_skip : No (can p) → LowestOf can key (also v p) s low
    lowest_skip n = record {
      inside = was;
      beyond = λ q x c. h.beyond q (old q x c) c;
      some = λ q x c. h.some q (old q x c) c;
    }
      where
        old : (q : ℕ) → So (also v p q) → So (can q) → So (v q)
        old q x c = ⊎_elim (λ y. y) (λ e. absurd (refuted c (ap can e ∙ n))) (also→ v p q x)

    module _ (c : So (can p)) where
      -- the first that can, or one with a lower key
      pub lowest-fresh : ((q : ℕ) → No (s q)) ⊎ (key p < low) → LowestOf can key (also v p) (also nobody p) (key p)
      lowest-fresh less = record {
        inside = λ q x. let e = only q x in (ap (also v p) e ∙ also_self v p, ap can e ∙ c, ap key e);
        beyond = λ q x y n. ⊎_elim (λ z. above q z y less) (λ e. absurd (refuted (ap (also nobody p) e ∙ also_self nobody p) n)) (also→ v p q x);
        some = λ q x y. (p, also_self nobody p);
      }
        where
          only : (q : ℕ) → So (also nobody p q) → q ≡ p
          only q x = ⊎_elim (λ y. absurd (false≢true y)) (λ e. e) (also→ nobody p q x)

          above : (q : ℕ) → So (v q) → So (can q) → ((q : ℕ) → No (s q)) ⊎ (key p < low) → key p < key q
          above q x y (inl none) = absurd (let r = h.some q x y in refuted r.1 (none r.0))
          above q x y (inr l) = ⊎_elim (λ z. omega (arith, (h.inside q z).2)) (λ z. omega (arith, h.beyond q x y z)) (passes (s q))

      -- one with the lowest key
      pub lowest_tie : key p ≡ low → LowestOf can key (also v p) (also s p) low
      lowest_tie e = record {
        inside = λ q x. ⊎_elim (was q) (λ z. (ap (also v p) z ∙ also_self v p, ap can z ∙ c, ap key z ∙ e)) (also→ s p q x);
        beyond = λ q x y n.
            ⊎_elim
            (λ z. h.beyond q z y (to_no (λ k. refuted (also_kept s p q k) n)))
            (λ z. absurd (refuted (ap (also s p) z ∙ also_self s p) n))
            (also→ v p q x);
        some = λ q x y. (p, also_self s p);
      }

      -- one with a higher key, where there is another
      pub lowest-above : low < key p → (r : ℕ) → So (s r) → LowestOf can key (also v p) s low
      lowest-above l r k = record {
        inside = was;
        beyond = λ q x y n. ⊎_elim (λ z. h.beyond q z y n) (λ z. omega (arith, ap key z)) (also→ v p q x);
        some = λ q x y. (r, k);
      }

-- A word for each of the visited -----------------------------------------------------------------

-- the word of a member of v is what f says, the others are 0
pub record Filled (f : ℕ → ℕ) (v : ℕ → Bool) (ws : List ℕ) : Type 0 where
  pub word : (q : ℕ) → q < length ws → get_or ws q 0 ≡ cond (v q) (f q) 0

pub filled_nobody : (f : ℕ → ℕ) (n : ℕ) → Filled f nobody (replicate n 0)
filled_nobody f n = record { word = λ q l. get_or-replicate n q 0 0 (rw (length-replicate {A = ℕ} n 0) at l) }

pub filled_visit : {f : ℕ → ℕ} {v : ℕ → Bool} {ws : List ℕ} (p : ℕ) → p < length ws → Filled f v ws → Filled f (also v p) (set ws p (f p))
unfolding also
filled_visit {f} {v} {ws} p l h = record { word = λ q m. go q (rw (length-set ws p (f p)) at m) (passes (eqb q p)) }
  where
    go : (q : ℕ) → q < length ws → So (eqb q p) ⊎ No (eqb q p) → get_or (set ws p (f p)) q 0 ≡ cond (also v p q) (f q) 0
    go q m (inl x) = let e : q ≡ p = eqb-true q p x in rw e (get_or-set_same ws p (f p) 0 l ∙ sym (cond_true _ (f p) 0 (also_self v p)))
    go q m (inr x) =
        let n = eqb-false q p x in
        get_or-set_other ws p q (f p) 0 n ∙ h.word q m ∙ ap (λ (b : Bool). cond b (f q) 0) (sym (also_other v p q n))
