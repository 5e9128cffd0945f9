-- Printed lines of document 01, "The program", and the largest number, by computing the definitions.
-- Assumes nothing.
use Rattle.std.specs.Prelude.{◌≡◌, refl, [], ◌∷◌, ◌++◌}
use Rattle.laws.specs.Walk.{over}
use Rattle.laws.specs.Lists.{blocks}
use Rattle.laws.specs.Texts.{bytes}
use Rattle.printing.specs.Printed.{digits, decimal, field, numbers_line, header_line, cell_line, refused_line, unreadable_line, held_line}

-- the definitions of printed lines in one name: what unfolds it computes with all of them
unfoldable pub Printing : Type 0
unfolding over blocks bytes digits decimal field numbers_line header_line cell_line refused_line unreadable_line held_line
Printing = Unit {0}

pub record PrintedExamples : Type 0 where
  -- the example of document 01
  pub cells : header_line ++ (cell_line 0 0 (0 ∷ 0 ∷ 10 ∷ []) ++ (cell_line 1 0 (1 ∷ 0 ∷ 11 ∷ []) ++ (cell_line 1 1 (0 ∷ 1 ∷ 12 ∷ []) ++ held_line 0)))
      ≡ bytes "slot output input entered tag\n0 0 0 0 10\n1 0 1 0 11\n1 1 0 1 12\nheld 0\n"
  pub refusals : refused_line 6 ++ unreadable_line ≡ bytes "refused 6\nunreadable\n"
  pub edges : (decimal 4294967295 ≡ bytes "4294967295") × (decimal 0 ≡ bytes "0")

pub printed_examples : PrintedExamples
unfolding Printing
printed_examples = record { cells = refl; refusals = refl; edges = (refl, refl) }
