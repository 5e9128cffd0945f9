-- What the code does at each byte: the steps that its contracts cite.
-- Assumes nothing.
use Rattle.std.specs.Prelude.{ℕ, ◌+◌, ◌≡◌, Bool, true, false, cond, ◌&&◌, List, leb, ltb, eqb, length, Option, Some, None}
use Rattle.std.proofs.Common.{sym, ◌∙◌}
use Rattle.std.proofs.lemmas.List.Edits.{sets}
use Rattle.rules.specs.Answers.{arrival_width}
use Rattle.text.specs.declared.number.Number.{Number}
use Rattle.text.specs.declared.number.Number.TheVariants.{Empty, Value, NoNumber}
use Rattle.text.specs.declared.field.Field.{Field}
use Rattle.text.specs.declared.field.Field.TheVariants.{Start, Dash, Output, Tag, NoField}
use Rattle.text.specs.declared.field.Arrival.{Arrival}
use Rattle.text.specs.declared.FirstLine.{FirstLine}
use Rattle.text.specs.declared.FirstReader.{FirstReader}
use Rattle.text.specs.declared.SlotReader.{SlotReader}
use Rattle.characters.specs.Characters.{space, dash, colon, is_digit, push}
use Rattle.text.specs.Lines.{largest_number, numbers, unreadable, arrival, field_words, largest_output}

-- a number ------------------------------------------------------------------------------------

unfoldable pub grown : ℕ → ℕ → Number
grown v b = cond (is_digit b && leb (push v b) largest_number) (Value (push v b)) NoNumber

abbrev pub number_step : Number → ℕ → Number
number_step Empty b = grown 0 b
number_step (Value v) b = grown v b
number_step NoNumber b = NoNumber

abbrev pub is_value : Number → Bool
is_value Empty = false
is_value (Value v) = true
is_value NoNumber = false

abbrev pub value_of : Number → ℕ
value_of Empty = 0
value_of (Value v) = v
value_of NoNumber = 0

abbrev pub value_in : Number → Option ℕ
value_in Empty = None
value_in (Value v) = Some v
value_in NoNumber = None

-- a field of a slot line ------------------------------------------------------------------------

-- a number that is an output
unfoldable pub may_lead : Number → Bool
may_lead n = is_value n && leb (value_of n) largest_output

-- what follows it at a colon: the tag, beside the output's word
unfoldable pub colon_step : Number → Field
colon_step n = cond (may_lead n) (Tag (value_of n + 1) Empty) NoField

unfoldable pub output_step : Number → ℕ → Field
output_step n b = cond (eqb b colon) (colon_step n) (Output (number_step n b))

unfoldable pub field_step : Field → ℕ → Field
field_step Start b = cond (eqb b dash) Dash (output_step Empty b)
field_step Dash b = NoField
field_step (Output n) b = output_step n b
field_step (Tag w n) b = Tag w (number_step n b)
field_step NoField b = NoField

unfoldable pub tag_end : ℕ → Number → Option Arrival
tag_end w n = cond (is_value n) (arrival w (value_of n)) None

abbrev pub field_end : Field → Option Arrival
field_end Start = None
field_end Dash = arrival 0 0
field_end (Output n) = None
field_end (Tag w n) = tag_end w n
field_end NoField = None

-- a slot line -----------------------------------------------------------------------------------

-- the reader, and the list that it writes to
pub record LineState : Type 0 where
  pub reader : SlotReader
  pub words : List ℕ

abbrev pub line_state : ℕ → Field → List ℕ → LineState
line_state at f ws = record { reader = record { at = at; field = f }; words = ws }

abbrev pub line_state_of : SlotReader → List ℕ → LineState
line_state_of r ws = record { reader = r; words = ws }

abbrev pub reader_start : SlotReader
reader_start = record { at = 0; field = Start }

abbrev pub slot_start : List ℕ → LineState
slot_start ws = line_state_of reader_start ws

-- a field's words at `at`, where the list has room for them
unfoldable pub written : Option Arrival → ℕ → List ℕ → LineState
written (Some a) at ws =
    cond (leb (at + arrival_width) (length ws)) (line_state (at + arrival_width) Start (sets ws at (field_words (Some a)))) (line_state at NoField ws)
written None at ws = line_state at NoField ws

unfoldable pub end_field : LineState → LineState
end_field s = written (field_end s.reader.field) s.reader.at s.words

unfoldable pub slot_step : LineState → ℕ → LineState
slot_step s b = cond (eqb b space) (end_field s) (line_state s.reader.at (field_step s.reader.field b) s.words)

-- after its last field a line is read where every word was written
abbrev pub is_good : Field → Bool
is_good Start = true
is_good Dash = true
is_good (Output n) = true
is_good (Tag w n) = true
is_good NoField = false

unfoldable pub is_complete : LineState → Bool
is_complete s = is_good s.reader.field && eqb s.reader.at (length s.words)

-- what a line's end answers and leaves
pub record Finished (s : LineState) (answer : Bool) (ws : List ℕ) : Type 0 where
  pub read : answer ≡ is_complete (end_field s)
  pub left : ws ≡ (end_field s).words

pub finished_settled : (s : LineState) (a b : Bool) (ws vs : List ℕ) → Finished s a ws → Finished s b vs → (a ≡ b) × (ws ≡ vs)
finished_settled s a b ws vs x y = (x.read ∙ sym y.read, x.left ∙ sym y.left)

-- the first line --------------------------------------------------------------------------------

abbrev pub first : ℕ → Number → Number → Number → FirstReader
first k n s r = record { ended = k; ports = n; speedup = s; records = r }

abbrev pub first_start : FirstReader
first_start = first 0 Empty Empty Empty

abbrev pub one_more : ℕ → ℕ
one_more k = cond (ltb k 3) (k + 1) k

unfoldable pub first_step : FirstReader → ℕ → FirstReader
first_step x b =
    cond (eqb b space)
    (first (one_more x.ended) x.speedup x.records Empty)
    (first x.ended x.ports x.speedup (number_step x.records b))

unfoldable pub three_of : Number → Number → Number → Option FirstLine
three_of n s r = cond (is_value n && (is_value s && is_value r)) (numbers (value_of n) (value_of s) (value_of r)) unreadable

unfoldable pub first_answer : FirstReader → Option FirstLine
first_answer x = cond (eqb x.ended 2) (three_of x.ports x.speedup x.records) unreadable
