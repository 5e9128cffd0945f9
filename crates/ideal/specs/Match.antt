-- The match of a phase: there is exactly one, picking finds it, and when picking ends no waiting cell is free of conflict.
-- Assumes nothing.
use Rattle.std.specs.Prelude.{◌≡◌, ◌⊎◌, Bool, ◌&&◌, List, eqb, Option, Some, None}
use Rattle.std.proofs.Math.Path.{refl, sym, ap}
use Rattle.std.proofs.Common.{subst, ◌∙◌}
use Rattle.std.proofs.Math.Logic.{inl, inr, ⊎_elim}
use Rattle.std.proofs.Math.Bool.{So, not}
use Rattle.std.proofs.lemmas.Bool.{false≢true}
use Prim.Native.Nat.{ℕ, suc, ◌+◌, ◌≤◌, ◌<◌}
use native.Mathlib.Omega.{arith}
use Rattle.std.proofs.Math.Dec.{ltb}
use Rattle.std.proofs.Math.ListN.{length, get_or}
use borrow.Author.Tests.{eqb-true, eq-eqb, ne_eqb}
use Rattle.laws.specs.Tests.{No, passes, refuted, to_no, both, join, either, on_left, on_right, denied, deny, eqb_self}
use Rattle.laws.specs.Walk.{over_ind}
use Rattle.laws.specs.Count.{count, count_same, count_more, count_le, count-full, count_into, any, →any, any_both→, →any_both}
use Rattle.laws.specs.Order.{strict_on}
use Rattle.laws.specs.Choice.{Choice, choice_unique}
use Rattle.laws.specs.Least.{Least, least_is, lowest}
use Rattle.laws.proofs.Least.{least_at, lowest_is, count_onto}
use Rattle.laws.specs.Lists.{get_or-tabulate}
use Rattle.rules.specs.declared.Input.{Input}
use Rattle.rules.specs.declared.Output.{Output}
use Rattle.rules.specs.declared.Slot.{Slot}
use Rattle.rules.specs.declared.Cell.{Cell}
use Rattle.rules.specs.Cells.{nth, output_of, is_waiting, same_input, same_output, before}
use Rattle.rules.specs.Phases.{conflict, is_open, first_open, none, add, add_found, round, match_of, is_taken_input, is_taken_output, moves, served_word, match_words}
use Rattle.rules.specs.Model.{Match, same}
use Rattle.ideal.specs.Cells.{waiting→, →waiting, by_output, conflict_self, conflict_sym}
use Rattle.ideal.specs.Cells.{same→, same_self, same_refl, before_strict, before_same, before_other}
use Rattle.ideal.specs.Fit.{Fit, untied}

-- A set with one more ---------------------------------------------------------------------------

module _ (m : ℕ → Bool) (k j : ℕ) where
  pub in_add : So (add m k j) → So (m j) ⊎ (j ≡ k)
  unfolding add
  in_add x = ⊎_elim (λ y. inl y) (λ y. inr (eqb-true _ _ y)) (either (m j) (eqb j k) x)

  pub to_add : So (m j) → So (add m k j)
  unfolding add
  to_add x = on_left (m j) (eqb j k) x

pub self_add : (m : ℕ → Bool) (k : ℕ) → So (add m k k)
unfolding add
self_add m k = on_right (m k) (eqb k k) (eqb_self k)

-- Open records and taken outputs ------------------------------------------------------------------

module _ (cs : List Cell) (m : ℕ → Bool) where
  pub open→ : (k : ℕ) → So (is_open cs m k) → So (is_waiting (nth cs k)) × ((d : ℕ) → d < length cs → So (m d) → So (conflict (nth cs d) (nth cs k)) → ⊥)
  unfolding is_open
  open→ k h =
      let a = both (is_waiting (nth cs k)) _ h in
      (a.0, λ d i x y. refuted (→any_both m (λ j. conflict (nth cs j) (nth cs k)) (length cs) d i x y) (denied _ a.1))

  pub shut→ : (k : ℕ) → So (is_waiting (nth cs k)) → No (is_open cs m k) → (d : ℕ) × (d < length cs) × So (m d) × So (conflict (nth cs d) (nth cs k))
  unfolding is_open
  shut→ k w h =
      ⊎_elim
      (any_both→ m (λ j. conflict (nth cs j) (nth cs k)) (length cs))
      (λ x. absurd (refuted (join _ _ w (deny _ x)) h))
      (passes (any (λ j. m j && conflict (nth cs j) (nth cs k)) (length cs)))

  pub taken_in→ : (i : Input) → So (is_taken_input m cs i) → (d : ℕ) × (d < length cs) × So (m d) × ((nth cs d).input.0 ≡ i.0)
  unfolding is_taken_input same_input
  taken_in→ i h = let d = any_both→ m (λ k. same_input (nth cs k).input i) (length cs) h in (d.0, d.1, d.2, eqb-true _ _ d.3)

  pub →taken_in : (i : Input) (d : ℕ) → d < length cs → So (m d) → (nth cs d).input.0 ≡ i.0 → So (is_taken_input m cs i)
  unfolding is_taken_input same_input
  →taken_in i d l x e = →any_both m (λ k. same_input (nth cs k).input i) (length cs) d l x (eq-eqb _ _ e)

  pub taken→ : (o : Output) → So (is_taken_output m cs o) → (d : ℕ) × (d < length cs) × So (m d) × ((nth cs d).output.0 ≡ o.0)
  unfolding is_taken_output same_output
  taken→ o h = let d = any_both→ m (λ k. same_output (nth cs k).output o) (length cs) h in (d.0, d.1, d.2, eqb-true _ _ d.3)

  pub →taken : (o : Output) (d : ℕ) → d < length cs → So (m d) → (nth cs d).output.0 ≡ o.0 → So (is_taken_output m cs o)
  unfolding is_taken_output same_output
  →taken o d i x e = →any_both m (λ k. same_output (nth cs k).output o) (length cs) d i x (eq-eqb _ _ e)

-- Any two matches are one -------------------------------------------------------------------------

-- how many records hold a cell that stands before c
unfoldable pub earlier : List ℕ → List Cell → Cell → ℕ
earlier r cs c = count (λ k. before r (nth cs k) c) (length cs)

-- fewer stand before a cell of the table than before what it stands before
pub earlier_less : (r : List ℕ) (cs : List Cell) (d c : Cell) (k : ℕ) → k < length cs → So (same (nth cs k) d) → So (before r d c)
    → earlier r cs d < earlier r cs c
unfolding earlier
earlier_less r cs d c k l e b =
    omega (
      arith,
      count_more (λ j. before r (nth cs j) d) (λ j. before r (nth cs j) c) (length cs) (λ j i x. (before_strict r).transitive _ d c x b) k l
          (before_same r (nth cs k) d c c (same→ _ d e) (same_self c) ∙ b) (λ x. before_other r (nth cs k) d x e),
    )

module _ {r : List ℕ} {cs : List Cell} where
  -- a match is a choice among the waiting records
  match_choice : {m : ℕ → Bool} → Match r cs m
      → Choice (λ k. (k < length cs) × So (is_waiting (nth cs k))) (λ d k. conflict (nth cs d) (nth cs k)) (λ d k. before r (nth cs d) (nth cs k)) m
  match_choice a =
      record {
        apart = λ d k i j x y c b.
            let e = a.apart d k i.0 j.0 x y c in
            refuted (subst (λ (e : ℕ). So (before r (nth cs e) (nth cs k))) e b) ((before_strict r).irreflexive (nth cs k));
        beaten = λ k i x. let d = a.beaten k i.0 i.1 x in (d.0, (d.1, a.waits d.0 d.1 d.2), d.2, d.3, d.4);
      }

  -- "There is exactly one such set": at most one
  pub match_unique : {m l : ℕ → Bool} → Match r cs m → Match r cs l → (k : ℕ) → k < length cs → m k ≡ l k
  match_unique {m} {l} a b k i =
      ⊎_elim
      (λ w. choice_unique (λ k. earlier r cs (nth cs k)) less (match_choice a) (match_choice b) k (i, w))
      (λ w. to_no (λ x. refuted (a.waits k i x) w) ∙ sym (to_no (λ x. refuted (b.waits k i x) w)))
      (passes (is_waiting (nth cs k)))
    where
      less : (d k : ℕ) → (d < length cs) × So (is_waiting (nth cs d)) → So (before r (nth cs d) (nth cs k)) → earlier r cs (nth cs d) < earlier r cs (nth cs k)
      less d k i h = earlier_less r cs (nth cs d) (nth cs k) d i.0 (same_refl (nth cs d)) h

  -- no waiting cell is free of conflict with a match
  pub match_closed : {m : ℕ → Bool} → Match r cs m → (k : ℕ) → k < length cs → No (is_open cs m k)
  match_closed {m} a k i =
      to_no (λ h.
      let o = open→ cs m k h in
      ⊎_elim (λ x. o.1 k i x (conflict_self (nth cs k))) (λ x. let d = a.beaten k i o.0 x in o.1 d.0 d.1 d.2 d.3) (passes (m k)))

-- Picking finds the match -------------------------------------------------------------------------

pub open_found : (r : List ℕ) (cs : List Cell) (m : ℕ → Bool) (k : ℕ) → first_open r cs m ≡ Some k → (k < length cs) × So (is_open cs m k)
unfolding first_open
open_found r cs m k e = least_at (is_open cs m) (λ i j. before r (nth cs i) (nth cs j)) (length cs) k e

-- a picked record is a waiting one of the table
pub match_waits : (n : ℕ) (r : List ℕ) (cs : List Cell) (k : ℕ) → So (match_of n r cs k) → (k < length cs) × ((nth cs k).place ≡ 1)
unfolding match_of none round
match_waits n r cs = over_ind (λ i m. round r cs m) none (λ i m. Waiting m) (λ k x. absurd (false≢true x)) n (λ i l m h. step m h)
  where
    Waiting : (ℕ → Bool) → Type 0
    Waiting m = (k : ℕ) → So (m k) → (k < length cs) × ((nth cs k).place ≡ 1)

    go : (m : ℕ → Bool) → Waiting m → (x : Option ℕ) → first_open r cs m ≡ x → Waiting (add_found m x)
    go m h None e k x = h k x
    go m h (Some j) e k x =
        let o = open_found r cs m j e in
        ⊎_elim (h k) (λ (q : k ≡ j). rw q (o.0, waiting→ _ (open→ cs m j o.1).0)) (in_add m j k x)

    step : (m : ℕ → Bool) → Waiting m → Waiting (round r cs m)
    step m h = go m h (first_open r cs m) refl

module _ {n : ℕ} {t : Slot} {cs : List Cell} (f : Fit n t cs) (r : List ℕ) where
  -- a match but for the records that are open
  record Part (m : ℕ → Bool) : Type 0 where
    apart : (j k : ℕ) → j < length cs → k < length cs → So (m j) → So (m k) → So (conflict (nth cs j) (nth cs k)) → j ≡ k
    beaten : (k : ℕ) → k < length cs → So (is_waiting (nth cs k)) → No (m k) → No (is_open cs m k)
        → (d : ℕ) × (d < length cs) × So (m d) × So (conflict (nth cs d) (nth cs k)) × So (before r (nth cs d) (nth cs k))

  Closed : (ℕ → Bool) → Type 0
  Closed m = (k : ℕ) → k < length cs → So (is_open cs m k) → ⊥

  empty : Part none
  unfolding none
  empty =
      record {
        apart = λ j k hj hk x y c. absurd (false≢true x);
        beaten = λ k i w x y. absurd (false≢true (shut→ cs none k w y).2);
      }

  firsts : (ℕ → Bool) → Option ℕ → Type 0
  firsts m x = Least (is_open cs m) (λ i j. before r (nth cs i) (nth cs j)) (length cs) x

  first_is : (m : ℕ → Bool) → firsts m (first_open r cs m)
  unfolding firsts first_open
  first_is m = least_is (is_open cs m) (λ i j. before r (nth cs i) (nth cs j)) (strict_on (before r) (before_strict r) (nth cs)) (length cs)

  grow : (m : ℕ → Bool) (k : ℕ) → Part m → firsts m (Some k) → Part (add m k)
  unfolding firsts
  grow m k p s = record { apart = ap'; beaten = be }
    where
      o : So (is_waiting (nth cs k)) × ((d : ℕ) → d < length cs → So (m d) → So (conflict (nth cs d) (nth cs k)) → ⊥)
      o = open→ cs m k s.1

      ap' : (a b : ℕ) → a < length cs → b < length cs → So (add m k a) → So (add m k b) → So (conflict (nth cs a) (nth cs b)) → a ≡ b
      ap' a b ha hb x y c =
          ⊎_elim
          (λ x'. ⊎_elim (λ y'. p.apart a b ha hb x' y' c) (λ (e : b ≡ k). absurd (o.1 a ha x' (rw e at c))) (in_add m k b y))
          (λ (e : a ≡ k). ⊎_elim (λ y'. absurd (o.1 b hb y' (conflict_sym (nth cs k) (nth cs b) (rw e at c)))) (λ (e' : b ≡ k). omega arith) (in_add m k b y))
          (in_add m k a x)

      be : (j : ℕ) → j < length cs → So (is_waiting (nth cs j)) → No (add m k j) → No (is_open cs (add m k) j)
          → (d : ℕ) × (d < length cs) × So (add m k d) × So (conflict (nth cs d) (nth cs j)) × So (before r (nth cs d) (nth cs j))
      be j i wj x y = ⊎_elim was (λ z. old (p.beaten j i wj (to_no (λ b. refuted (to_add m k j b) x)) z)) (passes (is_open cs m j))
        where
          old : (d : ℕ) × (d < length cs) × So (m d) × So (conflict (nth cs d) (nth cs j)) × So (before r (nth cs d) (nth cs j))
              → (d : ℕ) × (d < length cs) × So (add m k d) × So (conflict (nth cs d) (nth cs j)) × So (before r (nth cs d) (nth cs j))
          old d = (d.0, d.1, to_add m k d.0 d.2, d.3, d.4)

          -- what is shut by k was open, so k stands before it: nothing ties
          strict : So (is_open cs m j) → So (before r (nth cs k) (nth cs j))
          strict z = ⊎_elim (λ h. h) (λ h. absurd (refuted (subst (λ a. So (add m k a)) (tied h) (self_add m k)) x)) (passes (before r (nth cs k) (nth cs j)))
            where
              tied : No (before r (nth cs k) (nth cs j)) → k ≡ j
              tied h = untied n t cs f r k j s.0 i (omega (arith, waiting→ _ o.0)) (omega (arith, waiting→ _ wj)) h (s.2 j i z)

          was : So (is_open cs m j) → (d : ℕ) × (d < length cs) × So (add m k d) × So (conflict (nth cs d) (nth cs j)) × So (before r (nth cs d) (nth cs j))
          was z = go (shut→ cs (add m k) j wj y)
            where
              go : (d : ℕ) × (d < length cs) × So (add m k d) × So (conflict (nth cs d) (nth cs j))
                  → (d : ℕ) × (d < length cs) × So (add m k d) × So (conflict (nth cs d) (nth cs j)) × So (before r (nth cs d) (nth cs j))
              go d =
                  ⊎_elim
                  (λ b. absurd ((open→ cs m j z).1 d.0 d.1 b d.3))
                  (λ e. (k, s.0, self_add m k, subst (λ a. So (conflict (nth cs a) (nth cs j))) e d.3, strict z))
                  (in_add m k d.0 d.2)

  -- a round takes one more output
  takes : (m : ℕ → Bool) (k : ℕ) → firsts m (Some k) → moves n m cs + 1 ≤ moves n (add m k) cs
  unfolding firsts moves
  takes m k s =
      count_more (λ o. is_taken_output m cs (output_of o)) (λ o. is_taken_output (add m k) cs (output_of o)) n
      (λ o l x. let d = taken→ cs m (output_of o) x in →taken cs (add m k) (output_of o) d.0 d.1 (to_add m k d.0 d.2) d.3)
      (nth cs k).output.0
      ((f.each k s.0).output (omega (arith, waiting→ _ w.0)))
      (→taken cs (add m k) (nth cs k).output k s.0 (self_add m k) refl)
      (λ x. let d = taken→ cs m (nth cs k).output x in w.1 d.0 d.1 d.2 (by_output (nth cs d.0) (nth cs k) d.3))
    where
      w : So (is_waiting (nth cs k)) × ((d : ℕ) → d < length cs → So (m d) → So (conflict (nth cs d) (nth cs k)) → ⊥)
      w = open→ cs m k s.1

  -- after i rounds: a part of the match; and none is open, or i outputs are taken
  After : ℕ → (ℕ → Bool) → Type 0
  After i m = Part m × (Closed m ⊎ (i ≤ moves n m cs))

  step : (i : ℕ) (m : ℕ → Bool) → After i m → After (suc i) (round r cs m)
  unfolding round After firsts Closed
  step i m a = go (first_open r cs m) (first_is m)
    where
      go : (x : Option ℕ) → firsts m x → After (suc i) (add_found m x)
      go None s = (a.0, inl s)
      go (Some k) s = (grow m k a.0 s, inr (⊎_elim (λ c. absurd (c k s.0 s.1)) (λ l. omega (arith, takes m k s)) a.1))

  -- where N outputs are taken nothing is open
  all_taken : (m : ℕ → Bool) → n ≤ moves n m cs → Closed m
  unfolding Closed moves
  all_taken m h k i x =
      let w = open→ cs m k x in
      let l = (f.each k i).output (omega (arith, waiting→ _ w.0)) in
      let d = taken→ cs m (nth cs k).output (count-full (λ o. is_taken_output m cs (output_of o)) n h (nth cs k).output.0 l) in
      w.1 d.0 d.1 d.2 (by_output (nth cs d.0) (nth cs k) d.3)

  -- "There is exactly one such set": picking finds one
  pub match_is : Match r cs (match_of n r cs)
  unfolding match_of After Closed
  match_is = done (over_ind (λ i m. round r cs m) none After (empty, inr (omega arith)) n (λ i l m a. step i m a))
    where
      done : After n (match_of n r cs) → Match r cs (match_of n r cs)
      done a =
          record {
            waits = λ k i x. →waiting _ (match_waits n r cs k x).1;
            apart = a.0.apart;
            beaten = λ k i w x. a.0.beaten k i w x (to_no (⊎_elim (λ c. c) (all_taken (match_of n r cs)) a.1 k i));
          }

-- How many cells move -----------------------------------------------------------------------------

module _ {n : ℕ} {t : Slot} {cs : List Cell} (f : Fit n t cs) {r : List ℕ} {m : ℕ → Bool} (a : Match r cs m) where
  -- the record that an output's match word is of
  server : ℕ → Option ℕ
  server o = lowest (λ k. m k && same_output (nth cs k).output (output_of o)) (length cs)

  -- "a phase moves as many cells as there are taken outputs"
  pub match_moves : count m (length cs) ≡ moves n m cs
  unfolding moves
  match_moves =
      omega (
        arith,
        count_into m (λ k. (nth cs k).output.0) n (length cs) (λ o. is_taken_output m cs (output_of o))
            (λ k l x. ((f.each k l).output (omega (arith, waiting→ _ (a.waits k l x))), →taken cs m (nth cs k).output k l x refl))
            (λ j k hj hk x y e. a.apart j k hj hk x y (by_output (nth cs j) (nth cs k) e)),
        count_onto m (λ k. (nth cs k).output.0) (length cs) (λ o. is_taken_output m cs (output_of o)) n (λ o l x. taken→ cs m (output_of o) x),
      )

  -- "never above N"
  pub moves_le : count m (length cs) ≤ n
  unfolding moves
  moves_le = omega (arith, match_moves, count_le (λ o. is_taken_output m cs (output_of o)) n)

  -- The match words: 1 + the input of the cell that moves to the output, or 0
  word_at : (o : ℕ) → o < n → get_or (match_words n m cs) o 0 ≡ served_word cs (server o)
  unfolding match_words server
  word_at o l = get_or-tabulate (λ o. served_word cs (lowest (λ k. m k && same_output (nth cs k).output (output_of o)) (length cs))) n 0 o l

  pub match_word : (k : ℕ) → k < length cs → So (m k) → get_or (match_words n m cs) (nth cs k).output.0 0 ≡ suc (nth cs k).input.0
  unfolding server same_output
  match_word k l x =
      word_at (nth cs k).output.0 ((f.each k l).output (omega (arith, waiting→ _ (a.waits k l x))))
      ∙ go (server (nth cs k).output.0) (lowest_is (λ j. m j && same_output (nth cs j).output (nth cs k).output) (length cs))
    where
      go : (y : Option ℕ) → Least (λ j. m j && same_output (nth cs j).output (nth cs k).output) ltb (length cs) y → served_word cs y ≡ suc (nth cs k).input.0
      go (Some j) s =
          let b = both (m j) _ s.1 in
          let e : j ≡ k = a.apart j k s.0 l b.0 x (by_output (nth cs j) (nth cs k) (eqb-true _ _ b.1)) in
          ap (λ (i : ℕ). suc (nth cs i).input.0) e
      go None s = absurd (s k l (join _ _ x (eqb_self (nth cs k).output.0)))

  pub match_word_none : (o : ℕ) → o < n → No (is_taken_output m cs (output_of o)) → get_or (match_words n m cs) o 0 ≡ 0
  unfolding is_taken_output server
  match_word_none o l h = word_at o l ∙ go (server o) (lowest_is (λ k. m k && same_output (nth cs k).output (output_of o)) (length cs))
    where
      go : (y : Option ℕ) → Least (λ k. m k && same_output (nth cs k).output (output_of o)) ltb (length cs) y → served_word cs y ≡ 0
      go (Some k) s = absurd (refuted (→any (λ k. m k && same_output (nth cs k).output (output_of o)) (length cs) k s.0 s.1) h)
      go None s = refl

  -- as many words are not 0 as cells move
  pub words-moves : count (λ o. not (eqb (get_or (match_words n m cs) o 0) 0)) n ≡ count m (length cs)
  unfolding moves
  words-moves =
      count_same (λ o. not (eqb (get_or (match_words n m cs) o 0) 0)) (λ o. is_taken_output m cs (output_of o)) n
      (λ o l x. ⊎_elim (λ y. y) (λ y. absurd (refuted (eq-eqb _ _ (match_word_none o l y)) (denied _ x))) (passes (is_taken_output m cs (output_of o))))
      (λ o l x. deny _ (ne_eqb _ 0 (λ e. served o x e)))
      ∙ sym match_moves
    where
      served : (o : ℕ) → So (is_taken_output m cs (output_of o)) → get_or (match_words n m cs) o 0 ≡ 0 → ⊥
      served o x e =
          let d = taken→ cs m (output_of o) x in
          omega (arith, e, match_word d.0 d.1 d.2, ap (λ (q : ℕ). get_or (match_words n m cs) q 0) d.3)
