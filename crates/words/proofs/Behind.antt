-- A blank record with place 0 is the free one.
use Rattle.std.specs.Prelude.{ℕ, zero, suc, ◌<◌, ◌≡◌, get_or}
use Rattle.std.proofs.Common.{sym, ◌∙◌, arith}
use Rattle.std.proofs.Math.Bool.{So}
use Rattle.rules.specs.declared.Cell.{Cell}
use Rattle.rules.specs.Cells.{free, is_blank, width, fields}
use Rattle.words.specs.Words.{cell_ext, free-field}
use Rattle.words.specs.Behind.{blank→}

module _ (c : Cell) where
  -- a blank record with place 0 is the free one
  pub blank-free : ◌≡◌ {A = ℕ} c.place 0 → So (is_blank c) → c ≡ free
  blank-free e h = cell_ext c free (λ r l. each r l ∙ sym (free-field r l))
    where
      each : (r : ℕ) → r < width → ◌≡◌ {A = ℕ} (get_or (fields c) r 0) 0
      each zero l = e
      each (suc r) l = blank→ c h r (omega arith)
