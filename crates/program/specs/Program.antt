-- Document 01, "The program": everything that is printed for an input, as a definition over its lines.
-- What lines say and how they are printed is `text`'s, and what a fresh start and a slot do is `rules`'; here they are put together.
-- Assumes nothing.
use Rattle.std.specs.Prelude.{ℕ, ◌+◌, ◌*◌, cond, List, [], ◌∷◌, ◌++◌, Option, Some, None, eqb, get_or, replicate}
use Rattle.laws.specs.Lists.{blocks}
use Rattle.laws.specs.Pieces.{part}
use Rattle.rules.specs.declared.Switch.{Switch}
use Rattle.rules.specs.Cells.{switch, width, cells_of}
use Rattle.rules.specs.Answers.{Answer, lists, number_of, is_done, exhaled_width, live}
use Rattle.rules.specs.Calls.{Started, fresh_start, Outcome, slot, State}
use Rattle.text.specs.declared.FirstLine.{FirstLine}
use Rattle.characters.specs.Characters.{newline}
use Rattle.text.specs.Lines.{cut, is_empty, first_line, is_slot_line, slot_line_words}
use Rattle.printing.specs.Printed.{header_line, cell_line, refused_line, unreadable_line, held_line}

-- "a line ends with a newline": the lines, and last what stands after the last newline
unfoldable pub lines_of : List ℕ → List (List ℕ)
lines_of input = cut newline input

-- "The last line is `held` and the number of live cells."
unfoldable pub held_text : State → List ℕ
held_text x = held_line (live (cells_of x.table))

-- "An unreadable line prints `unreadable` and ends the reading."
unfoldable pub end_text : State → List ℕ
end_text x = unreadable_line ++ held_text x

-- "each emitted cell by slot and output: slot, output, input, slot of entry, tag": what output o emitted, if its entry says so in its first word
unfoldable pub cell_text : ℕ → List ℕ → ℕ → List ℕ
cell_text t e o = cond (eqb (get_or e (o * exhaled_width) 0) 0) [] (cell_line t o (part e (o * exhaled_width + 1) (o * exhaled_width + exhaled_width)))

unfoldable pub slot_text : ℕ → ℕ → List ℕ → List ℕ
slot_text t n e = blocks n (cell_text t e)

-- the slot that a line's words ask for. The other two lists have the lengths that go with the numbers; an accepted slot writes every word.
unfoldable pub slot_on : State → List ℕ → Outcome
slot_on x words =
    slot x.numbers x.table (lists words (replicate (x.numbers.speedup * x.numbers.ports) 0) (replicate (x.numbers.ports * exhaled_width) 0))

-- "A refused slot prints `refused` and the number, and the next line is tried at the same slot."
unfoldable pub answer_text : Switch → Answer → List ℕ → List ℕ
answer_text w a e = cond (is_done a) (slot_text w.next.0 w.ports e) (refused_line (number_of a))

unfoldable pub line_text : State → List ℕ → List ℕ
line_text x words = let o : Outcome = slot_on x words in answer_text x.numbers o.answer o.exhaled

unfoldable pub line_after : State → List ℕ → State
line_after x words = let o : Outcome = slot_on x words in record { numbers = o.numbers; table = o.table }

-- the slot lines. "Bytes after the last newline are an unreadable line"
unfoldable pub slots_text : State → List (List ℕ) → List ℕ
slots_text x [] = end_text x
slots_text x (rest ∷ []) = cond (is_empty rest) (held_text x) (end_text x)
slots_text x (line ∷ (l ∷ ls)) =
    cond (is_slot_line x.numbers.ports line) (line_text x (slot_line_words line) ++ slots_text (line_after x (slot_line_words line)) (l ∷ ls)) (end_text x)

-- "If .. its fresh start is refused, that one message stands by itself." Otherwise "a header" comes first.
unfoldable pub start_text : Started → List (List ℕ) → List ℕ
start_text f ls =
    cond (is_done f.answer) (header_line ++ slots_text (record { numbers = f.numbers; table = f.table }) ls) (refused_line (number_of f.answer))

-- "N, S and table length on the first line": the fresh start is handed a table of that length. What stands in it is not read.
unfoldable pub first_text : Option FirstLine → List (List ℕ) → List ℕ
first_text None ls = unreadable_line
first_text (Some line) ls = start_text (fresh_start (switch line.ports line.speedup 0) (replicate (line.records * width) 0)) ls

-- "and so is a missing first line"
unfoldable pub opening_text : List (List ℕ) → List ℕ
opening_text [] = unreadable_line
opening_text (rest ∷ []) = unreadable_line
opening_text (line ∷ (l ∷ ls)) = first_text (first_line line) (l ∷ ls)

-- THE WHOLE OUTPUT for a whole input
unfoldable pub program_text : List ℕ → List ℕ
program_text input = opening_text (lines_of input)
