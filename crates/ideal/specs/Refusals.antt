-- "GivenFor exactly when": a number is given when its row holds and no row above it does, and 0 when none holds. A row is looked up by its answer and
-- never by its position. For any rows with answers of their own, so for those of a fresh start and of a slot, and for each group of them.
-- Assumes nothing.
use Rattle.std.specs.Prelude.{◌≡◌, ◌⊎◌, ◌↔◌, Bool, true, false, not, cond, ◌&&◌, ◌||◌, ℕ, eqb}
use Rattle.std.proofs.Math.Path.{refl, ap}
use Rattle.std.proofs.Common.{sym, ◌∙◌, inl, inr, eqb-true, eq-eqb}
use Rattle.std.proofs.Math.Logic.{⊎_elim}
use Rattle.std.proofs.Math.Bool.{So}
use Rattle.std.proofs.lemmas.Bool.{false≢true}
use mathlib.Core.List.{List, [], ◌∷◌, ◌++◌}
use Rattle.laws.specs.Tests.{No, passes, refuted, both, neither, on_left, on_right, denied, cond_true, cond_false}
use Rattle.rules.specs.declared.Switch.{Switch}
use Rattle.rules.specs.Answers.{Answer, done, Lists, number_of, is_done, Check, first_of, fresh_checks, slot_checks, fresh_answer, slot_answer}

-- Rows by their answers --------------------------------------------------------------------------

unfoldable pub same_answer : Answer → Answer → Bool
same_answer a b = eqb (number_of a) (number_of b)

-- whether there is a row with answer a, whether it holds, and the rows above it
unfoldable pub has_row : Answer → List Check → Bool
has_row a [] = false
has_row a (c ∷ cs) = same_answer a c.answer || has_row a cs

unfoldable pub holds_for : Answer → List Check → Bool
holds_for a [] = false
holds_for a (c ∷ cs) = cond (same_answer a c.answer) c.holds (holds_for a cs)

unfoldable pub above : Answer → List Check → List Check
above a [] = []
above a (c ∷ cs) = cond (same_answer a c.answer) [] (c ∷ above a cs)

unfoldable pub any_holds : List Check → Bool
any_holds [] = false
any_holds (c ∷ cs) = c.holds || any_holds cs

-- every row answers with a refusal; and with one of its own. Tests that compute, since the rows' numbers do.
unfoldable pub refuses : List Check → Bool
refuses [] = true
refuses (c ∷ cs) = not (is_done c.answer) && refuses cs

unfoldable pub own_answers : List Check → Bool
own_answers [] = true
own_answers (c ∷ cs) = not (has_row c.answer cs) && own_answers cs

-- What is given ----------------------------------------------------------------------------------

-- a row's answer is given when the row holds and none above it does
pub record GivenFor (a : Answer) (cs : List Check) : Type 0 where
  pub holds : So (holds_for a cs)
  pub none_above : No (any_holds (above a cs))

module _ (c : Check) (cs : List Check) where
  first_holds : So c.holds → first_of (c ∷ cs) ≡ c.answer
  unfolding first_of
  first_holds h = cond_true c.holds c.answer (first_of cs) h

  first_later : No c.holds → first_of (c ∷ cs) ≡ first_of cs
  unfolding first_of
  first_later h = cond_false c.holds c.answer (first_of cs) h

  refuses_here : So (refuses (c ∷ cs)) → No (is_done c.answer) × So (refuses cs)
  unfolding refuses
  refuses_here r = let b = both (not (is_done c.answer)) (refuses cs) r in (denied _ b.0, b.1)

-- what is given is the answer of a row, or done
of_a_row : (cs : List Check) (a : Answer) → So (same_answer a (first_of cs)) → So (has_row a cs) ⊎ So (is_done a)
unfolding has_row same_answer is_done first_of
of_a_row [] a e = inr e
of_a_row (c ∷ cs) a e =
    ⊎_elim
    (λ h. inl (on_left (same_answer a c.answer) (has_row a cs) (ap (same_answer a) (sym (first_holds c cs h)) ∙ e)))
    (λ h.
    let rest = of_a_row cs a (ap (same_answer a) (sym (first_later c cs h)) ∙ e) in
    ⊎_elim (λ x. inl (on_right (same_answer a c.answer) (has_row a cs) x)) (λ x. inr x) rest)
    (passes c.holds)

module _ (a : Answer) (c : Check) (cs : List Check) where
  -- the first row is that of a
  module _ (s : So (same_answer a c.answer)) where
    at_first : holds_for a (c ∷ cs) ≡ c.holds
    unfolding holds_for
    at_first = cond_true _ c.holds (holds_for a cs) s

    first→ : No (is_done a) → No (has_row a cs) → So (same_answer a (first_of (c ∷ cs))) → GivenFor a (c ∷ cs)
    unfolding above any_holds
    first→ d own e = ⊎_elim here later (passes c.holds)
      where
        here : So c.holds → GivenFor a (c ∷ cs)
        here h = record { holds = at_first ∙ h; none_above = ap any_holds (cond_true _ [] (c ∷ above a cs) s) }

        later : No c.holds → GivenFor a (c ∷ cs)
        later h = ⊎_elim (λ x. absurd (refuted x own)) (λ x. absurd (refuted x d)) (of_a_row cs a (ap (same_answer a) (sym (first_later c cs h)) ∙ e))

    →first : GivenFor a (c ∷ cs) → So (same_answer a (first_of (c ∷ cs)))
    →first g = ap (same_answer a) (first_holds c cs (sym at_first ∙ g.holds)) ∙ s

  -- it is a row further down
  module _ (s : No (same_answer a c.answer)) where
    further : holds_for a (c ∷ cs) ≡ holds_for a cs
    unfolding holds_for
    further = cond_false _ c.holds (holds_for a cs) s

    below_first : any_holds (above a (c ∷ cs)) ≡ (c.holds || any_holds (above a cs))
    unfolding above any_holds
    below_first = ap any_holds (cond_false _ [] (c ∷ above a cs) s)

    later→ : (So (same_answer a (first_of cs)) → GivenFor a cs) → So (same_answer a (first_of (c ∷ cs))) → GivenFor a (c ∷ cs)
    later→ f e = ⊎_elim here later (passes c.holds)
      where
        here : So c.holds → GivenFor a (c ∷ cs)
        here h = absurd (refuted (ap (same_answer a) (sym (first_holds c cs h)) ∙ e) s)

        later : No c.holds → GivenFor a (c ∷ cs)
        later h =
            let g = f (ap (same_answer a) (sym (first_later c cs h)) ∙ e) in
            record { holds = further ∙ g.holds; none_above = below_first ∙ rw h g.none_above }

    →later : (GivenFor a cs → So (same_answer a (first_of cs))) → GivenFor a (c ∷ cs) → So (same_answer a (first_of (c ∷ cs)))
    →later f g =
        let n = neither c.holds (any_holds (above a cs)) (sym below_first ∙ g.none_above) in
        ap (same_answer a) (first_later c cs n.0) ∙ f (record { holds = sym further ∙ g.holds; none_above = n.1 })

-- answers with the same number have the same row
same_row : (a b : Answer) → So (same_answer a b) → (cs : List Check) → has_row a cs ≡ has_row b cs
unfolding has_row same_answer
same_row a b s [] = refl
same_row a b s (c ∷ cs) = let q : number_of a ≡ number_of b = eqb-true _ _ s in rw (q, same_row a b s cs)

-- the answer of a row is given exactly when that row holds and none above it does
given→ : (cs : List Check) → So (own_answers cs) → (a : Answer) → No (is_done a) → So (same_answer a (first_of cs)) → GivenFor a cs
unfolding own_answers first_of same_answer is_done
given→ [] own a d e = absurd (refuted e d)
given→ (c ∷ cs) own a d e =
    let b = both (not (has_row c.answer cs)) (own_answers cs) own in
    ⊎_elim
    (λ s. first→ a c cs s d (same_row a c.answer s cs ∙ denied _ b.0) e)
    (λ s. later→ a c cs s (given→ cs b.1 a d) e)
    (passes (same_answer a c.answer))

→given : (cs : List Check) (a : Answer) → GivenFor a cs → So (same_answer a (first_of cs))
unfolding holds_for
→given [] a g = absurd (false≢true g.holds)
→given (c ∷ cs) a g = ⊎_elim (λ s. →first a c cs s g) (λ s. →later a c cs s (→given cs a) g) (passes (same_answer a c.answer))

pub given : (cs : List Check) → So (own_answers cs) → (a : Answer) → No (is_done a) → (number_of (first_of cs) ≡ number_of a) ↔ GivenFor a cs
unfolding same_answer
given cs own a d = (λ e. given→ cs own a d (eq-eqb _ _ (sym e)), λ g. sym (eqb-true _ _ (→given cs a g)))

-- 0 is given exactly when no row holds
done→ : (cs : List Check) → So (refuses cs) → So (is_done (first_of cs)) → No (any_holds cs)
unfolding any_holds
done→ [] r d = refl
done→ (c ∷ cs) r d =
    let q = refuses_here c cs r in
    ⊎_elim
    (λ h. absurd (refuted (ap is_done (sym (first_holds c cs h)) ∙ d) q.0))
    (λ h. rw h (done→ cs q.1 (ap is_done (sym (first_later c cs h)) ∙ d)))
    (passes c.holds)

-- and then it is done itself
pub none_holds : (cs : List Check) → No (any_holds cs) → first_of cs ≡ done
unfolding any_holds first_of
none_holds [] h = refl
none_holds (c ∷ cs) h = let n = neither c.holds (any_holds cs) h in cond_false c.holds c.answer (first_of cs) n.0 ∙ none_holds cs n.1

pub is_done_lem : {a : Answer} (cs : List Check) → So (refuses cs) → a ≡ first_of cs → So (is_done a) → a ≡ done
is_done_lem cs r e d = e ∙ none_holds cs (done→ cs r (ap is_done (sym e) ∙ d))

pub given_done : (cs : List Check) → So (refuses cs) → (number_of (first_of cs) ≡ 0) ↔ No (any_holds cs)
unfolding is_done
given_done cs r = (λ e. done→ cs r (eq-eqb _ _ e), λ h. ap number_of (none_holds cs h))

-- where it is done, no row holds, whichever answer it is looked up by
not-held : (cs : List Check) → No (any_holds cs) → (a : Answer) → No (holds_for a cs)
unfolding any_holds holds_for
not-held [] h a = refl
not-held (c ∷ cs) h a =
    let n = neither c.holds (any_holds cs) h in
    ⊎_elim
    (λ s. cond_true _ c.holds (holds_for a cs) s ∙ n.0)
    (λ s. cond_false _ c.holds (holds_for a cs) s ∙ not-held cs n.1 a)
    (passes (same_answer a c.answer))

pub passed : (cs : List Check) → So (refuses cs) → So (is_done (first_of cs)) → (a : Answer) → No (holds_for a cs)
passed cs r d = not-held cs (done→ cs r d)

-- One group of rows after another ------------------------------------------------------------------

-- the later rows are looked at only where none of the first holds
pub first-append : (cs ds : List Check) → So (refuses cs) → first_of (cs ++ ds) ≡ cond (is_done (first_of cs)) (first_of ds) (first_of cs)
unfolding first_of is_done
first-append [] ds r = refl
first-append (c ∷ cs) ds r = go c.holds (first-append cs ds (refuses_here c cs r).1)
  where
    go : (b : Bool) → first_of (cs ++ ds) ≡ cond (is_done (first_of cs)) (first_of ds) (first_of cs)
        → cond b c.answer (first_of (cs ++ ds)) ≡ cond (is_done (cond b c.answer (first_of cs))) (first_of ds) (cond b c.answer (first_of cs))
    go true e = sym (cond_false (is_done c.answer) (first_of ds) c.answer (refuses_here c cs r).0)
    go false e = e

module _ (cs ds : List Check) (r : So (refuses cs)) where
  pub group_stops : No (is_done (first_of cs)) → first_of (cs ++ ds) ≡ first_of cs
  group_stops h = first-append cs ds r ∙ cond_false _ (first_of ds) (first_of cs) h

  pub group_goes_on : So (is_done (first_of cs)) → first_of (cs ++ ds) ≡ first_of ds
  group_goes_on h = first-append cs ds r ∙ cond_true _ (first_of ds) (first_of cs) h

  -- both groups are passed where all rows are
  pub group_both : So (is_done (first_of (cs ++ ds))) → So (is_done (first_of cs)) × So (is_done (first_of ds))
  group_both h =
      ⊎_elim
      (λ x. (x, ap is_done (sym (group_goes_on x)) ∙ h))
      (λ x. absurd (refuted (ap is_done (sym (group_stops x)) ∙ h) x))
      (passes (is_done (first_of cs)))

-- The two calls ----------------------------------------------------------------------------------

module _ (w : Switch) (table : List ℕ) where
  pub fresh_given : (a : Answer) → No (is_done a) → (number_of (fresh_answer w table) ≡ number_of a) ↔ GivenFor a (fresh_checks w table)
  unfolding own_answers has_row same_answer fresh_answer
  fresh_given = given (fresh_checks w table) refl

  pub fresh_done : (number_of (fresh_answer w table) ≡ 0) ↔ No (any_holds (fresh_checks w table))
  unfolding refuses is_done fresh_answer
  fresh_done = given_done (fresh_checks w table) refl

  pub slot_given : (l : Lists) (a : Answer) → No (is_done a) → (number_of (slot_answer w table l) ≡ number_of a) ↔ GivenFor a (slot_checks w table l)
  unfolding own_answers has_row same_answer slot_answer
  slot_given l = given (slot_checks w table l) refl

  pub slot_done : (l : Lists) → (number_of (slot_answer w table l) ≡ 0) ↔ No (any_holds (slot_checks w table l))
  unfolding refuses is_done slot_answer
  slot_done l = given_done (slot_checks w table l) refl
