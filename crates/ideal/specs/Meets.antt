-- The rules meet the published model's conditions, phase by phase; the exhale in proofs/Meets.antt.
-- Assumes nothing.
use Rattle.std.specs.Prelude.{◌≡◌, ◌⊎◌, Bool, not, ◌&&◌, ◌||◌, List, ℕ, ◌≤◌, ◌<◌, length}
use Rattle.std.proofs.Common.{sym, ◌∙◌, inl, ⊎_elim, arith, eq-zero-or-pos, eqb-true, eq-eqb}
use Rattle.std.proofs.Math.Bool.{So}
use Rattle.laws.specs.Tests.{No, passes, refuted, to_no, both, join, either, on_left, on_right, denied, deny, same_test}
use Rattle.laws.specs.Count.{any_both→, →any_both}
use Rattle.rules.specs.declared.Slot.{Slot}
use Rattle.rules.specs.declared.Cell.{Cell}
use Rattle.rules.specs.Cells.{free, nth, is_waiting, is_ready, same_input, same_output, same_slot, before}
use Rattle.rules.specs.Answers.{arrives}
use Rattle.rules.specs.Phases.{arrival, conflict, moved, is_emitted, exhale}
use Rattle.rules.specs.Model.{Match, same, among, input_buffer, output_buffer, arrived, Initial, Inhale, Transfer}
use Rattle.ideal.specs.Cells.{place≡, waiting→, →waiting, ready→, →ready, conflict→, by_input, by_output}
use Rattle.ideal.specs.Cells.{same→, same_self, same_refl, same_sym, same_trans, same-placed, before_same}
use Rattle.ideal.specs.Fit.{Fit}
use Rattle.ideal.specs.Phases.{length_moved, moved_yes, moved_no}
use Rattle.ideal.specs.Inhale.{Inhaled}
use Rattle.ideal.specs.Exhale.{some_emitted, length-exhale, exhale_kept, exhale-left}

-- Sets of cells ----------------------------------------------------------------------------------

module _ (p : ℕ → Bool) (cs : List Cell) (c : Cell) where
  pub among→ : So (among p cs c) → (k : ℕ) × (k < length cs) × So (p k) × So (same (nth cs k) c)
  unfolding among
  among→ h = any_both→ p (λ k. same (nth cs k) c) (length cs) h

  pub →among : (k : ℕ) → k < length cs → So (p k) → So (same (nth cs k) c) → So (among p cs c)
  unfolding among
  →among k l x s = →any_both p (λ k. same (nth cs k) c) (length cs) k l x s

-- a set holds every same cell
pub among_same : (p : ℕ → Bool) (cs : List Cell) (c d : Cell) → So (same c d) → So (among p cs c) → So (among p cs d)
among_same p cs c d s h = let k = among→ p cs c h in →among p cs d k.0 k.1 k.2 (same_trans _ _ _ k.3 s)

module _ (cs : List Cell) (c : Cell) where
  pub input→ : So (input_buffer cs c) → (k : ℕ) × (k < length cs) × ((nth cs k).place ≡ 1) × So (same (nth cs k) c)
  unfolding input_buffer
  input→ h = let k = among→ _ cs c h in (k.0, k.1, waiting→ _ k.2, k.3)

  pub →input : (k : ℕ) → k < length cs → (nth cs k).place ≡ 1 → So (same (nth cs k) c) → So (input_buffer cs c)
  unfolding input_buffer
  →input k l w s = →among (λ k. is_waiting (nth cs k)) cs c k l (→waiting _ w) s

  pub output→ : So (output_buffer cs c) → (k : ℕ) × (k < length cs) × ((nth cs k).place ≡ 2) × So (same (nth cs k) c)
  unfolding output_buffer
  output→ h = let k = among→ _ cs c h in (k.0, k.1, ready→ _ k.2, k.3)

  pub →output : (k : ℕ) → k < length cs → (nth cs k).place ≡ 2 → So (same (nth cs k) c) → So (output_buffer cs c)
  unfolding output_buffer
  →output k l w s = →among (λ k. is_ready (nth cs k)) cs c k l (→ready _ w) s

-- a record that is as it is in another table holds a cell in the buffer that the other holds it in
module _ (cs us : List Cell) (c : Cell) (k : ℕ) (l : k < length us) (e : nth cs k ≡ nth us k) where
  pub input_as : (nth cs k).place ≡ 1 → So (same (nth cs k) c) → So (input_buffer us c)
  input_as w s = →input us c k l (rw e at w) (rw e at s)

  pub output_as : (nth cs k).place ≡ 2 → So (same (nth cs k) c) → So (output_buffer us c)
  output_as w s = →output us c k l (rw e at w) (rw e at s)

-- two live records of a fit table that hold the same cell are one
pub fit_single : {n : ℕ} {t : Slot} {cs : List Cell} → Fit n t cs → (c : Cell) (j k : ℕ) → j < length cs → k < length cs
    → 1 ≤ (nth cs j).place → 1 ≤ (nth cs k).place → So (same (nth cs j) c) → So (same (nth cs k) c) → j ≡ k
fit_single f c j k hj hk wj wk x y = let a = same→ _ c x in let b = same→ _ c y in f.apart j k hj hk wj wk (omega arith) (omega arith)

-- numbers of one kind are compared
input_eq : (c d : Cell) → So (same_input c.input d.input) → c.input.0 ≡ d.input.0
unfolding same_input
input_eq c d h = eqb-true _ _ h

pub eq_input : (c d : Cell) → c.input.0 ≡ d.input.0 → So (same_input c.input d.input)
unfolding same_input
eq_input c d h = eq-eqb _ _ h

pub output_eq : (c d : Cell) → So (same_output c.output d.output) → c.output.0 ≡ d.output.0
unfolding same_output
output_eq c d h = eqb-true _ _ h

pub eq_output : (c d : Cell) → c.output.0 ≡ d.output.0 → So (same_output c.output d.output)
unfolding same_output
eq_output c d h = eq-eqb _ _ h

slot_eq : (c : Cell) (t : Slot) → c.entered.0 ≡ t.0 → So (same_slot c.entered t)
unfolding same_slot
slot_eq c t h = eq-eqb _ _ h

-- conflict goes by the cell
conflict-same : (b b' c c' : Cell) → So (same b b') → So (same c c') → So (conflict b c) → So (conflict b' c')
conflict-same b b' c c' r s h =
    let p = same→ b b' r in
    let q = same→ c c' s in
    ⊎_elim (λ e. by_input b' c' (omega arith)) (λ e. by_output b' c' (omega arith)) (conflict→ b c h)

-- 2.7 --------------------------------------------------------------------------------------------

pub fresh_meets : (cs : List Cell) → ((k : ℕ) → k < length cs → nth cs k ≡ free) → Initial cs
fresh_meets cs h =
    record {
      input_empty = λ c. to_no (λ x. let k = input→ cs c x in omega (arith, place≡ (h k.0 k.1), k.2));
      output_empty = λ c. to_no (λ x. let k = output→ cs c x in omega (arith, place≡ (h k.0 k.1), k.2));
    }

-- 2.8 --------------------------------------------------------------------------------------------

module _ (n : ℕ) (t : Slot) (arrivals : List ℕ) where
  arrived→ : (c : Cell) → So (arrived n t arrivals c) → (i : ℕ) × (i < n) × So (arrives arrivals i) × So (same (arrival t arrivals i) c)
  unfolding arrived
  arrived→ c h = any_both→ (arrives arrivals) (λ i. same (arrival t arrivals i) c) n h

  →arrived : (c : Cell) (i : ℕ) → i < n → So (arrives arrivals i) → So (same (arrival t arrivals i) c) → So (arrived n t arrivals c)
  unfolding arrived
  →arrived c i l x s = →any_both (arrives arrivals) (λ i. same (arrival t arrivals i) c) n i l x s

  -- of the arriving cells, one for each input
  arrived_per : (c d : Cell) → So (arrived n t arrivals c) → So (arrived n t arrivals d) → So (same_input c.input d.input) → So (same c d)
  arrived_per c d x y e =
      let i = arrived→ c x in
      let j = arrived→ d y in
      let q : i.0 ≡ j.0 = (same→ _ c i.3).input ∙ input_eq c d e ∙ sym (same→ _ d j.3).input in
      same_trans c (arrival t arrivals i.0) d (same_sym _ c i.3) (rw q j.3)

  module _ (cs us : List Cell) (h : Inhaled t arrivals n cs us) where
    -- a record is as it was, or came
    from : (k : ℕ) → k < length us → (nth us k ≡ nth cs k) ⊎ ((j : ℕ) × (j < n) × So (arrives arrivals j) × (nth us k ≡ arrival t arrivals j))
    from k l =
        let m : k < length cs = omega (arith, h.long) in
        ⊎_elim (λ z. h.new k m z) (λ w. inl (h.old k m w)) (eq-zero-or-pos (nth cs k).place)

    was_ready : (c : Cell) → So (output_buffer us c) → So (output_buffer cs c)
    was_ready c x =
        let k = output→ us c x in
        let l : k.0 < length cs = omega (arith, h.long, k.1) in
        ⊎_elim (λ e. output_as us cs c k.0 l e k.2 k.3) (λ z. absurd (omega (arith, k.2, place≡ z.3))) (from k.0 k.1)

    stays_ready : (c : Cell) → So (output_buffer cs c) → So (output_buffer us c)
    stays_ready c x =
        let k = output→ cs c x in
        output_as cs us c k.0 (omega (arith, h.long, k.1)) (sym (h.old k.0 k.1 (omega (arith, k.2)))) k.2 k.3

    was_or_came : (c : Cell) → So (input_buffer us c) → So (input_buffer cs c || arrived n t arrivals c)
    was_or_came c x =
        let k = input→ us c x in
        let l : k.0 < length cs = omega (arith, h.long, k.1) in
        ⊎_elim
        (λ e. on_left _ _ (input_as us cs c k.0 l e k.2 k.3))
        (λ z. on_right (input_buffer cs c) _ (→arrived c z.0 z.1 z.2 (rw z.3 at k.3)))
        (from k.0 k.1)

    stays_waiting : (c : Cell) → So (input_buffer cs c) → So (input_buffer us c)
    stays_waiting c x =
        let k = input→ cs c x in
        input_as cs us c k.0 (omega (arith, h.long, k.1)) (sym (h.old k.0 k.1 (omega (arith, k.2)))) k.2 k.3

    comes_in : (c : Cell) → So (arrived n t arrivals c) → So (input_buffer us c)
    comes_in c x =
        let i = arrived→ c x in
        let k = h.came i.0 i.1 i.2 in
        →input us c k.0 (omega (arith, h.long, k.1)) (place≡ k.3) (rw k.3 i.3)

    pub inhale_meets : Inhale t (arrived n t arrivals) cs us
    inhale_meets = record {
      output_kept = λ c. same_test _ _ (was_ready c) (stays_ready c);
      arrive = λ c. same_test _ _ (was_or_came c) (λ x. ⊎_elim (stays_waiting c) (comes_in c) (either (input_buffer cs c) _ x));
      per_input = arrived_per;
      on_time = λ c x. slot_eq c t (sym (same→ _ c (arrived→ c x).3).entered);
    }

-- 2.9 and 3.5 ------------------------------------------------------------------------------------

module _ {n : ℕ} {t : Slot} {cs : List Cell} (f : Fit n t cs) {r : List ℕ} {m : ℕ → Bool} (a : Match r cs m) where
  waits : (k : ℕ) → k < length cs → So (m k) → (nth cs k).place ≡ 1
  waits k l x = waiting→ _ (a.waits k l x)

  -- the record of a transferred cell is of the match
  theirs : (c : Cell) (k : ℕ) → k < length cs → 1 ≤ (nth cs k).place → So (same (nth cs k) c) → So (among m cs c) → So (m k)
  theirs c k l w s x =
      let j = among→ m cs c x in
      let e : j.0 ≡ k = fit_single f c j.0 k j.1 l (omega (arith, waits j.0 j.1 j.2)) w j.3 s in
      rw e at j.2

  -- two transferred cells that clash are one
  one_cell : (c d : Cell) → So (among m cs c) → So (among m cs d) → So (conflict c d) → So (same c d)
  one_cell c d x y clash =
      let j = among→ m cs c x in
      let k = among→ m cs d y in
      let b = conflict-same c (nth cs j.0) d (nth cs k.0) (same_sym _ c j.3) (same_sym _ d k.3) clash in
      let e : j.0 ≡ k.0 = a.apart j.0 k.0 j.1 k.1 j.2 k.2 b in
      same_trans c (nth cs j.0) d (same_sym _ c j.3) (rw e k.3)

  length-after : (k : ℕ) → k < length cs → k < length (moved m cs)
  length-after k l = omega (arith, length_moved m cs)

  -- what still waits did so, and was not transferred
  left-waiting : (c : Cell) → So (input_buffer (moved m cs) c) → So (input_buffer cs c && not (among m cs c))
  left-waiting c x =
      let k = input→ (moved m cs) c x in
      let l : k.0 < length cs = omega (arith, length_moved m cs, k.1) in
      let no-m : No (m k.0) = to_no (λ y. omega (arith, k.2, place≡ (moved_yes m cs k.0 l y))) in
      let e = moved_no m cs k.0 l no-m in
      let w : (nth cs k.0).place ≡ 1 = rw e at k.2 in
      join _ _ (input_as (moved m cs) cs c k.0 l e k.2 k.3)
      (deny _ (to_no (λ y. refuted (theirs c k.0 l (omega arith) (rw e at k.3) y) no-m)))

  stays_left : (c : Cell) → So (input_buffer cs c && not (among m cs c)) → So (input_buffer (moved m cs) c)
  stays_left c x =
      let b = both (input_buffer cs c) _ x in
      let k = input→ cs c b.0 in
      let no-m = to_no (λ y. refuted (→among m cs c k.0 k.1 y k.3) (denied _ b.1)) in
      input_as cs (moved m cs) c k.0 (length-after k.0 k.1) (sym (moved_no m cs k.0 k.1 no-m)) k.2 k.3

  -- what is ready was so, or was transferred
  ready_or_moved : (c : Cell) → So (output_buffer (moved m cs) c) → So (output_buffer cs c || among m cs c)
  ready_or_moved c x =
      let k = output→ (moved m cs) c x in
      let l : k.0 < length cs = omega (arith, length_moved m cs, k.1) in
      let was : So (m k.0) → So (same (nth cs k.0) c) = λ y.
      same_trans _ _ c (same_sym _ _ (same-placed 2 (nth cs k.0))) (rw (moved_yes m cs k.0 l y) at k.3) in
      ⊎_elim
      (λ y. on_right (output_buffer cs c) _ (→among m cs c k.0 l y (was y)))
      (λ y. on_left _ _ (output_as (moved m cs) cs c k.0 l (moved_no m cs k.0 l y) k.2 k.3))
      (passes (m k.0))

  keeps_ready : (c : Cell) → So (output_buffer cs c) → So (output_buffer (moved m cs) c)
  keeps_ready c x =
      let k = output→ cs c x in
      let e = moved_no m cs k.0 k.1 (to_no (λ z. omega (arith, k.2, waits k.0 k.1 z))) in
      output_as cs (moved m cs) c k.0 (length-after k.0 k.1) (sym e) k.2 k.3

  becomes_ready : (c : Cell) → So (among m cs c) → So (output_buffer (moved m cs) c)
  becomes_ready c x =
      let k = among→ m cs c x in
      let e = moved_yes m cs k.0 k.1 k.2 in
      →output (moved m cs) c k.0 (length-after k.0 k.1) (place≡ e) (rw e (same_trans _ _ c (same-placed 2 (nth cs k.0)) k.3))

  matched : (c : Cell) → So (input_buffer cs c) → No (among m cs c) → (d : Cell) × So (among m cs d) × So (conflict d c) × So (before r d c)
  matched c x y =
      let k = input→ cs c x in
      let d = a.beaten k.0 k.1 (→waiting _ k.2) (to_no (λ z. refuted (→among m cs c k.0 k.1 z k.3) y)) in
      let b : Cell = nth cs d.0 in (
        b,
        →among m cs b d.0 d.1 d.2 (same_refl b),
        conflict-same b b (nth cs k.0) c (same_refl b) k.3 d.3,
        sym (before_same r b b (nth cs k.0) c (same_self b) (same→ _ c k.3)) ∙ d.4,
      )

  pub transfer_meets : Transfer r (among m cs) cs (moved m cs)
  transfer_meets = record {
    subset = λ c x. let k = among→ m cs c x in →input cs c k.0 k.1 (waits k.0 k.1 k.2) k.3;
    depart = λ c. same_test _ _ (left-waiting c) (stays_left c);
    arrive = λ c. same_test _ _ (ready_or_moved c) (λ x. ⊎_elim (keeps_ready c) (becomes_ready c) (either (output_buffer cs c) _ x));
    per_input = λ c d x y e. one_cell c d x y (by_input c d (input_eq c d e));
    per_output = λ c d x y e. one_cell c d x y (by_output c d (output_eq c d e));
    matching = matched;
  }

-- 2.10 and 3.6 -----------------------------------------------------------------------------------

module _ {n : ℕ} {t : Slot} {cs : List Cell} (f : Fit n t cs) where
  pub length-left : (k : ℕ) → k < length cs → k < length (exhale n cs)
  length-left k l = omega (arith, length-exhale n cs)

  pub input_left : (c : Cell) → So (input_buffer (exhale n cs) c) → So (input_buffer cs c)
  input_left c x =
      let k = input→ (exhale n cs) c x in
      let l : k.0 < length cs = omega (arith, length-exhale n cs, k.1) in
      input_as (exhale n cs) cs c k.0 l (exhale-left n cs k.0 l (omega (arith, k.2))).1 k.2 k.3

  pub output_stays : (c : Cell) → So (output_buffer cs c && not (among (is_emitted n cs) cs c)) → So (output_buffer (exhale n cs) c)
  output_stays c x =
      let b = both (output_buffer cs c) _ x in
      let k = output→ cs c b.0 in
      let no-e = to_no (λ y. refuted (→among (is_emitted n cs) cs c k.0 k.1 y k.3) (denied _ b.1)) in
      output_as cs (exhale n cs) c k.0 (length-left k.0 k.1) (sym (exhale_kept n cs k.0 k.1 no-e)) k.2 k.3

  pub works : (c : Cell) → So (output_buffer cs c) → (d : Cell) × So (among (is_emitted n cs) cs d) × So (same_output d.output c.output)
  works c x =
      let k = output→ cs c x in
      let d = some_emitted n cs k.0 k.1 k.2 ((f.each k.0 k.1).output (omega (arith, k.2))) in
      let b : Cell = nth cs d.0 in
      (b, →among (is_emitted n cs) cs b d.0 d.1 d.2 (same_refl b), eq_output b c (d.3 ∙ (same→ _ c k.3).output))
