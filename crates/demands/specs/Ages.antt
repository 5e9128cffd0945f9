-- The order of cells as numbers: an age, by slot and then input, and a standing, by the reading of the output and then age. On the cells of a
-- switch of up to 16 ports they say what `older` and `before` say.
-- Assumes nothing.
use Rattle.std.specs.Prelude.{◌≡◌, List, ℕ, ◌+◌, ◌*◌, ◌≤◌, ◌<◌, ltb, get_or}
use Rattle.std.proofs.Common.{sym, ap, ◌∙◌, arith}
use Rattle.std.proofs.Math.Logic.{⊎_elim}
use Rattle.std.proofs.Math.Bool.{So}
use borrow.Author.Tests.{ltb-true, ltb-false, lt-ltb}
use Rattle.laws.specs.Tests.{No, passes, refuted}
use Rattle.laws.specs.Order.{lower→, →lower, lower_equal}
use Rattle.rules.specs.declared.Slot.{Slot}
use Rattle.rules.specs.declared.Cell.{Cell}
use Rattle.rules.specs.Cells.{most_ports, older, reading_for, before}
use Rattle.ideal.specs.Fit.{Sound}

-- the older of two cells has the lower age
abbrev pub age : Cell → ℕ
age c = c.entered.0 * most_ports + c.input.0

-- above every slot number, and above every age
abbrev pub slot_end : ℕ
slot_end = 4294967296

abbrev pub reach : ℕ
reach = 68719476736

-- by the reading of the cell's output, then by age
abbrev pub standing : (ℕ → ℕ) → Cell → ℕ
standing r c = r c.output.0 * reach + age c

-- what keeps ages apart: each field of the order within its bound. A live record of a fit table is such.
pub record Aged (c : Cell) : Type 0 where
  pub inputs : c.input.0 < most_ports

pub aged : {n : ℕ} {t : Slot} {c : Cell} → n ≤ most_ports → Sound n t c → 1 ≤ c.place → Aged c
aged ports s w = record { inputs = omega (arith, s.input w) }

pub age_below : {c : Cell} → Aged c → c.entered.0 < slot_end → age c < reach
age_below a l = omega (arith, a.inputs)

-- a cell that entered in an earlier slot has no higher age
pub age_later : {c : Cell} (d : Cell) → Aged c → c.entered.0 < d.entered.0 → age c ≤ age d
age_later d a l = omega (arith, a.inputs)

module _ (c d : Cell) (ac : Aged c) (ad : Aged d) where
  pub older→ : So (older c d) → age c < age d
  unfolding older
  older→ h = ⊎_elim (λ x. omega (arith, ac.inputs)) (λ x. omega (arith, x.0, ltb-true c.input.0 d.input.0 x.1)) (lower→ _ _ _ h)

  pub →older : age c < age d → So (older c d)
  unfolding older
  →older h = →lower _ _ _ (omega (arith, ad.inputs)) (λ e. lt-ltb c.input.0 d.input.0 (omega arith))

  pub not-older→ : No (older c d) → age d ≤ age c
  not-older→ h = ⊎_elim (λ x. absurd (refuted (→older (ltb-true _ _ x)) h)) (λ x. ltb-false (age c) (age d) x) (passes (ltb (age c) (age d)))

-- for one output, the cell that stands before is the older one
pub before-older : (r : List ℕ) (c d : Cell) → c.output.0 ≡ d.output.0 → So (before r c d) → So (older c d)
unfolding before reading_for
before-older r c d e h = sym (lower_equal _ _ (older c d) (ap (λ (o : ℕ). get_or r o 0) e)) ∙ h

-- where the numbers r are the readings of the two outputs
pub before→ : (rs : List ℕ) (r : ℕ → ℕ) (c d : Cell) → Aged c → Aged d → c.entered.0 < slot_end → d.entered.0 < slot_end
    → reading_for rs c.output ≡ r c.output.0 → reading_for rs d.output ≡ r d.output.0 → So (before rs c d) → standing r c < standing r d
unfolding before
before→ rs r c d ac ad ec ed rc rd h =
    ⊎_elim (λ x. omega (arith, x, rc, rd, age_below ac ec)) (λ x. omega (arith, x.0, rc, rd, older→ c d ac ad x.1)) (lower→ _ _ _ h)
