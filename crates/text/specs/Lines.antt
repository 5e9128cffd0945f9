-- Document 01, "The program": what the lines of an arrival list say, as definitions over the whole line.
-- A line is the list of its bytes, without its newline.
-- Assumes nothing.
use Rattle.std.specs.Prelude.{ℕ, ◌+◌, Bool, true, false, cond, not, ◌&&◌, leb, eqb, length, Option, Some, None}
use mathlib.Core.List.{List, [], ◌∷◌, flat_map}
use Rattle.laws.specs.Folds.{each}
use Rattle.characters.specs.Characters.{space, dash, colon, is_digit, value}
use Rattle.text.specs.declared.field.Arrival.{Arrival}
use Rattle.text.specs.declared.FirstLine.{FirstLine}

-- a byte set before the first of some parts
abbrev pub prepended : ℕ → List (List ℕ) → List (List ℕ)
prepended b [] = (b ∷ []) ∷ []
prepended b (f ∷ fs) = (b ∷ f) ∷ fs

-- the parts, empty ones too, that stand one byte s apart: one more than there are bytes s
unfoldable pub cut : ℕ → List ℕ → List (List ℕ)
cut s [] = [] ∷ []
cut s (b ∷ bs) = cond (eqb b s) ([] ∷ cut s bs) (prepended b (cut s bs))

-- "fields stand one space apart"
abbrev pub line_fields : List ℕ → List (List ℕ)
line_fields line = cut space line

-- "Numbers are decimal digits"; "leading zeros are allowed"; "a number without a digit or above 4,294,967,295" makes a line unreadable
abbrev pub largest_number : ℕ
largest_number = 4294967295

abbrev pub is_empty : List ℕ → Bool
is_empty [] = true
is_empty (b ∷ bs) = false

unfoldable pub is_number : List ℕ → Bool
is_number f = not (is_empty f) && (each is_digit f && leb (value f) largest_number)

-- "N, S and table length on the first line"
abbrev pub numbers : ℕ → ℕ → ℕ → Option FirstLine
numbers n s k = Some (record { ports = n; speedup = s; records = k })

abbrev pub unreadable : Option FirstLine
unreadable = None

abbrev pub three : List (List ℕ) → Option FirstLine
three [] = unreadable
three (n ∷ []) = unreadable
three (n ∷ (s ∷ [])) = unreadable
three (n ∷ (s ∷ (k ∷ []))) = cond (is_number n && (is_number s && is_number k)) (numbers (value n) (value s) (value k)) unreadable
three (n ∷ (s ∷ (k ∷ (x ∷ xs)))) = unreadable

unfoldable pub first_line : List ℕ → Option FirstLine
first_line line = three (line_fields line)

-- "`-`": no cell, two zero words
abbrev pub is_dash : List ℕ → Bool
is_dash [] = false
is_dash (b ∷ []) = eqb b dash
is_dash (b ∷ (c ∷ cs)) = false

-- "an output above 4,294,967,294" makes a line unreadable
abbrev pub largest_output : ℕ
largest_output = 4294967294

unfoldable pub is_output : List ℕ → Bool
is_output f = is_number f && leb (value f) largest_output

-- what a field says, as an input's two words
abbrev pub arrival : ℕ → ℕ → Option Arrival
arrival w t = Some (record { word = w; tag = t })

-- "`output:tag`": the words are output + 1 and the tag
abbrev pub output_tag : List (List ℕ) → Option Arrival
output_tag [] = None
output_tag (o ∷ []) = None
output_tag (o ∷ (t ∷ [])) = cond (is_output o && is_number t) (arrival (value o + 1) (value t)) None
output_tag (o ∷ (t ∷ (x ∷ xs))) = None

unfoldable pub field_arrival : List ℕ → Option Arrival
field_arrival f = cond (is_dash f) (arrival 0 0) (output_tag (cut colon f))

abbrev pub is_read : Option Arrival → Bool
is_read (Some a) = true
is_read None = false

abbrev pub field_words : Option Arrival → List ℕ
field_words (Some a) = a.word ∷ a.tag ∷ []
field_words None = []

-- "a line a slot, with `-` or `output:tag` for each input": whether a line is one for n inputs, and its words for the inputs in turn
unfoldable pub is_slot_line : ℕ → List ℕ → Bool
is_slot_line n line = eqb (length (line_fields line)) n && each (λ f. is_read (field_arrival f)) (line_fields line)

unfoldable pub slot_line_words : List ℕ → List ℕ
slot_line_words line = flat_map (λ f. field_words (field_arrival f)) (line_fields line)
