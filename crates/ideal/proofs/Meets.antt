-- The exhale meets the published model.
use Rattle.std.specs.Prelude.{◌≡◌, not, ◌&&◌, List, ℕ, ◌≤◌, ◌<◌, length}
use Rattle.std.proofs.Common.{sym, ◌∙◌, arith}
use Rattle.std.proofs.Math.Bool.{So}
use Rattle.laws.specs.Tests.{No, refuted, to_no, join, deny, same_test}
use Rattle.rules.specs.declared.Slot.{Slot}
use Rattle.rules.specs.declared.Cell.{Cell}
use Rattle.rules.specs.Cells.{nth, same_output, older}
use Rattle.rules.specs.Phases.{is_emitted, exhale}
use Rattle.rules.specs.Model.{same, among, input_buffer, output_buffer, Exhale}
use Rattle.ideal.specs.Cells.{→ready_for}
use Rattle.ideal.specs.Cells.{same→, same_sym, same_trans, older-same, older_tie}
use Rattle.ideal.specs.Fit.{Fit}
use Rattle.ideal.specs.Exhale.{emitted→, length-exhale, exhale_kept, exhale-left}
use Rattle.ideal.specs.Meets.{among→, input→, output→, →output, input_as, output_as, fit_single, output_eq, length-left, input_left, output_stays, works}

module _ {n : ℕ} {t : Slot} {cs : List Cell} (f : Fit n t cs) where
  -- of two emitted records for one output neither is older
  pub one_each : (j k : ℕ) → So (is_emitted n cs j) → So (is_emitted n cs k) → (nth cs j).output.0 ≡ (nth cs k).output.0 → j ≡ k
  one_each j k x y e =
      let a = emitted→ n cs j x in
      let b = emitted→ n cs k y in
      let j-not = b.first j a.below (→ready_for (nth cs k).output (nth cs j) a.ready e) in
      let k-not = a.first k b.below (→ready_for (nth cs j).output (nth cs k) b.ready (sym e)) in
      let q = older_tie (nth cs j) (nth cs k) j-not k-not in
      f.apart j k a.below b.below (omega (arith, a.ready)) (omega (arith, b.ready)) q.0 q.1

  -- the record of an emitted cell is emitted
  emitted_theirs : (c : Cell) (k : ℕ) → k < length cs → 1 ≤ (nth cs k).place → So (same (nth cs k) c) → So (among (is_emitted n cs) cs c) → So (is_emitted n cs k)
  emitted_theirs c k l w s y =
      let j = among→ _ cs c y in
      let q : j.0 ≡ k = fit_single f c j.0 k j.1 l (omega (arith, (emitted→ n cs j.0 j.2).ready)) w j.3 s in
      rw q at j.2

  input_stays : (c : Cell) → So (input_buffer cs c) → So (input_buffer (exhale n cs) c)
  input_stays c x =
      let k = input→ cs c x in
      let e = exhale_kept n cs k.0 k.1 (to_no (λ y. omega (arith, k.2, (emitted→ n cs k.0 y).ready))) in
      input_as cs (exhale n cs) c k.0 (length-left f k.0 k.1) (sym e) k.2 k.3

  -- what is still ready was so, and was not emitted
  output_left : (c : Cell) → So (output_buffer (exhale n cs) c) → So (output_buffer cs c && not (among (is_emitted n cs) cs c))
  output_left c x =
      let k = output→ (exhale n cs) c x in
      let l : k.0 < length cs = omega (arith, length-exhale n cs, k.1) in
      let e = exhale-left n cs k.0 l (omega (arith, k.2)) in
      let w : (nth cs k.0).place ≡ 2 = rw e.1 at k.2 in
      join _ _ (output_as (exhale n cs) cs c k.0 l e.1 k.2 k.3)
      (deny _ (to_no (λ y. refuted (emitted_theirs c k.0 l (omega arith) (rw e.1 at k.3) y) e.0)))

  emitted_per : (c d : Cell) → So (among (is_emitted n cs) cs c) → So (among (is_emitted n cs) cs d) → So (same_output c.output d.output) → So (same c d)
  emitted_per c d x y e =
      let j = among→ _ cs c x in
      let k = among→ _ cs d y in
      let o = (same→ _ c j.3).output ∙ output_eq c d e ∙ sym (same→ _ d k.3).output in
      let q : j.0 ≡ k.0 = one_each j.0 k.0 j.2 k.2 o in
      same_trans c (nth cs j.0) d (same_sym _ c j.3) (rw q k.3)

  ordered : (c d : Cell) → So (among (is_emitted n cs) cs c) → So (output_buffer cs d) → So (same_output c.output d.output) → No (older d c)
  ordered c d x y e =
      let j = among→ _ cs c x in
      let k = output→ cs d y in
      let p = same→ _ c j.3 in
      let q = same→ _ d k.3 in
      let o = q.output ∙ sym (output_eq c d e) ∙ sym p.output in
      sym (older-same (nth cs k.0) d (nth cs j.0) c q p)
      ∙ (emitted→ n cs j.0 j.2).first k.0 k.1 (→ready_for (nth cs j.0).output (nth cs k.0) k.2 o)

  pub exhale_meets : Exhale (among (is_emitted n cs) cs) cs (exhale n cs)
  exhale_meets = record {
    input_kept = λ c. same_test _ _ (input_left f c) (input_stays c);
    subset = λ c x. let k = among→ _ cs c x in →output cs c k.0 k.1 (emitted→ n cs k.0 k.2).ready k.3;
    depart = λ c. same_test _ _ (output_left c) (output_stays f c);
    per_output = emitted_per;
    work = works f;
    order = ordered;
  }
