-- At an exhale where each waiting cell has a ready one for its output with no higher key, every output with a cell emits one; and where the key is
-- the age, no cell held for it is older (report, 4.1).
-- Assumes nothing.
use Rattle.std.specs.Prelude.{◌≡◌, refl, List, ℕ, ◌≤◌, ◌<◌, length}
use Rattle.std.proofs.Common.{◌∙◌, ⊎_elim, arith, eq-or-lt_of_le}
use Rattle.std.proofs.Math.Bool.{So}
use Rattle.laws.specs.Tests.{No, to_no}
use Rattle.rules.specs.declared.Slot.{Slot}
use Rattle.rules.specs.declared.Cell.{Cell}
use Rattle.rules.specs.Cells.{most_ports, nth, older}
use Rattle.rules.specs.Phases.{is_emitted}
use Rattle.ideal.specs.Cells.{→ready_for}
use Rattle.ideal.specs.Fit.{Fit}
use Rattle.ideal.specs.Exhale.{emitted→, some_emitted}
use Rattle.demands.specs.Ages.{age, aged, older→, not-older→}
use Rattle.demands.specs.Led.{Leader, Led}

module _ {n : ℕ} {t : Slot} {cs : List Cell} {key : Cell → ℕ} (f : Fit n t cs) (led : Led (length cs) key (nth cs)) where
  -- a live cell is led, by itself where it is ready
  lead : (j : ℕ) → j < length cs → 1 ≤ (nth cs j).place → Leader (length cs) key (nth cs) (nth cs j)
  lead j l w =
      ⊎_elim
      (λ y. record { number = j; below = l; ready = y; output = refl; first = omega arith })
      (λ y. led.led j l (omega arith))
      (eq-or-lt_of_le (f.each j l).place)

  -- "whenever there are any cells in the switch destined to output o .., output o exhales some cell"
  pub works : (j : ℕ) → j < length cs → 1 ≤ (nth cs j).place
      → (k : ℕ) × (k < length cs) × So (is_emitted n cs k) × ((nth cs k).output.0 ≡ (nth cs j).output.0)
  works j l w =
      let d = lead j l w in
      let k = some_emitted n cs d.number d.below d.ready (rw d.output ((f.each j l).output w)) in
      (k.0, k.1, k.2, k.3 ∙ d.output)

module _ {n : ℕ} {t : Slot} {cs : List Cell} (ports : n ≤ most_ports) (f : Fit n t cs) (led : Led (length cs) age (nth cs)) where
  -- "there are no cells in the switch destined to output o that precede c"
  pub orders : (k j : ℕ) → So (is_emitted n cs k) → j < length cs → 1 ≤ (nth cs j).place → (nth cs j).output.0 ≡ (nth cs k).output.0
      → No (older (nth cs j) (nth cs k))
  orders k j x l w o =
      let e = emitted→ n cs k x in
      let d = lead f led j l w in
      let c : Cell = nth cs d.number in
      let ik = aged ports (f.each k e.below) (omega (arith, e.ready)) in
      let ij = aged ports (f.each j l) w in
      let ic = aged ports (f.each d.number d.below) (omega (arith, d.ready)) in
      let a = not-older→ c (nth cs k) ic ik (e.first d.number d.below (→ready_for (nth cs k).output c d.ready (d.output ∙ o))) in
      to_no (λ h. omega (arith, d.first, a, older→ (nth cs j) (nth cs k) ij ik h))
