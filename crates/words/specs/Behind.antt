-- The fields of a record behind its place, which are 0 in a free one. `is_blank` names each of them, and the laws here and in
-- proofs/Behind.antt are the only ones that look inside it.
-- Assumes nothing.
use Rattle.std.specs.Prelude.{ℕ, suc, ◌-◌, ◌<◌, ◌≡◌, List, eqb, get_or, drop}
use Rattle.std.proofs.Math.Path.{refl}
use Rattle.std.proofs.Common.{sym, ◌∙◌, arith, eqb-true, eq-eqb}
use Rattle.std.proofs.Math.Bool.{So}
use Rattle.laws.specs.Walk.{over}
use Rattle.laws.specs.Count.{every, every→, →every}
use Rattle.rules.specs.declared.Cell.{Cell}
use Rattle.rules.specs.Cells.{free, is_blank, width, fields}
use Rattle.words.specs.Words.{free-field}

abbrev pub behind : Cell → List ℕ
behind c = drop 1 (fields c)

module _ (c : Cell) where
  blank-each : is_blank c ≡ every (λ r. eqb (get_or (behind c) r 0) 0) (width - 1)
  unfolding is_blank every over
  blank-each = refl

  pub blank→ : So (is_blank c) → (r : ℕ) → r < width - 1 → ◌≡◌ {A = ℕ} (get_or (behind c) r 0) 0
  blank→ h r l = eqb-true (get_or (behind c) r 0) 0 (every→ _ (width - 1) (sym blank-each ∙ h) r l)

  pub →blank : ((r : ℕ) → r < width - 1 → ◌≡◌ {A = ℕ} (get_or (behind c) r 0) 0) → So (is_blank c)
  →blank h = blank-each ∙ →every _ (width - 1) (λ r l. eq-eqb (get_or (behind c) r 0) 0 (h r l))

-- and the free one is blank
pub free-blank : So (is_blank free)
free-blank = →blank free (λ r l. free-field (suc r) (omega arith))
