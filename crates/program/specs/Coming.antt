-- What is still to be printed in each state of the program, for every rest of the input; the contracts are stated by it.
-- Assumes nothing.
use Rattle.std.specs.Prelude.{ℕ, ◌*◌, ◌≤◌, ◌≡◌, Bool, true, false, cond, List, [], ◌∷◌, ◌++◌, Some, take, drop}
use Rattle.laws.specs.Folds.{fold}
use Rattle.rules.specs.Answers.{arrival_width}
use Rattle.rules.specs.Calls.{State}
use Rattle.text.specs.declared.FirstLine.{FirstLine}
use Rattle.text.specs.declared.FirstReader.{FirstReader}
use Rattle.text.specs.declared.piece.Piece.{Piece}
use Rattle.text.specs.declared.SlotReader.{SlotReader}
use Rattle.printing.specs.declared.page.Page.{Page}
use Rattle.printing.specs.Printed.{unreadable_line}
use Rattle.printing.specs.Prints.{Put}
use Rattle.characters.specs.Characters.{newline}
use Rattle.text.specs.Steps.{LineState, line_state_of, end_field, slot_step, is_complete, first_step, first_answer}
use Rattle.program.specs.Lent.{end_room}
use Rattle.program.specs.declared.memory.Memory.{Memory}
use Rattle.program.specs.declared.running.Running.{Running}
use Rattle.program.specs.declared.Program.{Program}
use Rattle.program.specs.declared.Program.TheVariants.{First, Between, Within, Over}
use Rattle.program.specs.Program.{lines_of, held_text, end_text, line_text, line_after, slots_text, first_text}

-- the numbers in force, and the words of the lent table that are the switch's
abbrev pub state_of : Running → List ℕ → State
state_of x table = record { numbers = x.crossbar.numbers; table = take x.words table }

-- the words that a slot line is read into
abbrev pub line_words : Running → ℕ
line_words x = x.crossbar.numbers.ports * arrival_width

-- a line as far as it was read into them
abbrev pub line_of : Running → SlotReader → List ℕ → LineState
line_of x r arrivals = line_state_of r (take (line_words x) arrivals)

-- a first line of which a part was read: its bytes to come, and the lines behind it
unfoldable pub opening_from : FirstReader → List (List ℕ) → List ℕ
opening_from r [] = unreadable_line
opening_from r (rest ∷ []) = unreadable_line
opening_from r (line ∷ (l ∷ ls)) = first_text (first_answer (fold first_step r line)) (l ∷ ls)

-- a slot line at its end, and the lines behind it
unfoldable pub line_end : State → LineState → List (List ℕ) → List ℕ
line_end x e ls = cond (is_complete e) (line_text x e.words ++ slots_text (line_after x e.words) ls) (end_text x)

-- a slot line of which a part was read
unfoldable pub line_from : State → LineState → List (List ℕ) → List ℕ
line_from x s [] = end_text x
line_from x s (rest ∷ []) = end_text x
line_from x s (line ∷ (l ∷ ls)) = line_end x (end_field (fold slot_step s line)) (l ∷ ls)

-- the state by value, the lent table, and the lent words of the line
pub record Stand : Type 0 where
  pub program : Program
  pub table : List ℕ
  pub arrivals : List ℕ

abbrev pub stand : Program → List ℕ → List ℕ → Stand
stand d table arrivals = record { program = d; table = table; arrivals = arrivals }

-- WHAT IS STILL TO BE PRINTED, where the bytes `input` are still to come
unfoldable pub coming_by : Program → List ℕ → List ℕ → List ℕ → List ℕ
coming_by (First r) table arrivals input = opening_from r (lines_of input)
coming_by (Between x) table arrivals input = slots_text (state_of x table) (lines_of input)
coming_by (Within x r) table arrivals input = line_from (state_of x table) (line_of x r arrivals) (lines_of input)
coming_by Over table arrivals input = []

abbrev pub coming : Stand → List ℕ → List ℕ
coming s input = coming_by s.program s.table s.arrivals input

-- the same where nothing is to come any more
unfoldable pub closing : Program → List ℕ → List ℕ
closing (First r) table = unreadable_line
closing (Between x) table = held_text (state_of x table)
closing (Within x r) table = end_text (state_of x table)
closing Over table = []

abbrev pub is_over : Program → Bool
is_over (First r) = false
is_over (Between x) = false
is_over (Within x r) = false
is_over Over = true

-- what is to be printed where a byte of the first line is next, a fresh start, the end of a slot line, or the slot of a line's words
abbrev pub on_byte : FirstReader → ℕ → List ℕ → List ℕ
on_byte r b rest = opening_from r (lines_of (b ∷ rest))

abbrev pub on_numbers : FirstLine → List ℕ → List ℕ
on_numbers line rest = first_text (Some line) (lines_of rest)

abbrev pub on_newline : State → LineState → List ℕ → List ℕ
on_newline x s rest = line_from x s (lines_of (newline ∷ rest))

abbrev pub on_words : State → List ℕ → List ℕ → List ℕ
on_words x words rest = line_text x words ++ slots_text (line_after x words) (lines_of rest)

-- what each of these does: of the `whole` that is to be printed, for each further input, a text is put on the page, and the rest is to come from
-- the next state, whatever the words of a line are then
pub record Turns (whole : List ℕ → List ℕ) (out : Page) (d : Program) (table : List ℕ) (out' : Page) : Type 0 where
  pub text : List ℕ
  pub put : Put end_room out text out'
  pub comes : (arrivals rest : List ℕ) → whole rest ≡ text ++ coming_by d table arrivals rest

-- the bytes of a piece that were not taken
abbrev pub unread : Piece → List ℕ
unread p = drop p.next p.bytes.now

-- the same over bytes of a piece: from a stand and what is unread there to another stand and what is unread then
pub record Goes (most : ℕ) (p : Piece) (s : Stand) (out : Page) (p' : Piece) (s' : Stand) (out' : Page) : Type 0 where
  pub text : List ℕ
  pub put : Put most out text out'
  pub comes : (rest : List ℕ) → coming s (unread p ++ rest) ≡ text ++ coming s' (unread p' ++ rest)
  pub bytes : p'.bytes.now ≡ p.bytes.now
  pub order : p.next ≤ p'.next

-- of what a pass takes
abbrev pub PassGoes : ℕ → Piece → Program → Memory → Page → Piece → Program → Memory → Page → Type 0
PassGoes most p d m out p' d' m' out' = Goes most p (stand d m.table.now m.arrivals.now) out p' (stand d' m'.table.now m'.arrivals.now) out'

-- the words that were lent are still the caller's. Of a page's bytes `Put` says it.
pub record SameMemory (m m' : Memory) : Type 0 where
  pub table : m'.table.ghost_name ≡ m.table.ghost_name
  pub arrivals : m'.arrivals.ghost_name ≡ m.arrivals.ghost_name
