-- A store of a cell in the record that was found, if one was.
-- Assumes nothing.
use Rattle.std.specs.Prelude.{ℕ, ◌<◌, ◌≡◌, refl, Bool, true, false, cond, List, eqb, length, set, Option, Some, None}
use Rattle.std.proofs.Common.{length-set, get_or-set_same, get_or-set_other, eqb-true}
use Rattle.std.proofs.lemmas.Bool.{eqb-false}
use Rattle.laws.specs.Least.{is_at}
use Rattle.rules.specs.declared.Cell.{Cell}
use Rattle.rules.specs.Cells.{free, nth}
use Rattle.rules.specs.Phases.{store_at}

pub length-store_at : (x : Option ℕ) (c : Cell) (cs : List Cell) → length (store_at x c cs) ≡ length cs
length-store_at (Some k) c cs = length-set cs k c
length-store_at None c cs = refl

pub nth-store_at : (x : Option ℕ) (c : Cell) (cs : List Cell) (j : ℕ) → j < length cs → nth (store_at x c cs) j ≡ cond (is_at j x) c (nth cs j)
nth-store_at None c cs j l = refl
nth-store_at (Some k) c cs j l = go (eqb j k) refl
  where
    go : (b : Bool) → eqb j k ≡ b → nth (set cs k c) j ≡ cond b c (nth cs j)
    go true e = let q : j ≡ k = eqb-true j k e in rw q (get_or-set_same cs k c free (rw q at l))
    go false e = get_or-set_other cs k j c free (eqb-false j k e)
