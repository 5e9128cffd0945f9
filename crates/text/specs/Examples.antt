-- Lines of document 01, "The program", and lines at the edges of what can be read, by computing the definitions.
-- Assumes nothing.
use Rattle.std.specs.Prelude.{ℕ, ◌≡◌, refl, Bool, true, false, Option, None}
use Prim.Native.String.{String}
use mathlib.Core.List.{[], ◌∷◌, flat_map}
use Rattle.laws.specs.Folds.{fold, each}
use Rattle.laws.specs.Texts.{bytes}
use Rattle.text.specs.declared.FirstLine.{FirstLine}
use Rattle.text.specs.declared.field.Arrival.{Arrival}
use Rattle.characters.specs.Characters.{is_digit, push, value}
use Rattle.text.specs.Lines.{cut, is_number, numbers, unreadable, first_line, is_output, arrival, field_arrival, is_slot_line, slot_line_words}

unfoldable pub first_line_of : String → Option FirstLine
first_line_of s = first_line (bytes s)

unfoldable pub field_of : String → Option Arrival
field_of s = field_arrival (bytes s)

unfoldable pub reads : ℕ → String → Bool
reads n s = is_slot_line n (bytes s)

-- the definitions of lines in one name: what unfolds it computes with all of them
unfoldable pub Lining : Type 0
unfolding bytes fold each flat_map cut is_digit push value is_number first_line is_output field_arrival is_slot_line slot_line_words
Lining = Unit {0}

pub record LineExamples : Type 0 where
  -- the example of document 01
  pub sizes : first_line_of "2 3 4" ≡ numbers 2 3 4
  pub both_send : (reads 2 "0:10 0:11" ≡ true) × (slot_line_words (bytes "0:10 0:11") ≡ 1 ∷ 10 ∷ 1 ∷ 11 ∷ [])
  pub one_sends_lem : (reads 2 "1:12 -" ≡ true) × (slot_line_words (bytes "1:12 -") ≡ 2 ∷ 12 ∷ 0 ∷ 0 ∷ [])
  pub none_send : (reads 2 "- -" ≡ true) × (slot_line_words (bytes "- -") ≡ 0 ∷ 0 ∷ 0 ∷ 0 ∷ [])
  -- the largest numbers, and leading zeros
  pub outputs : (field_of "4294967294:0" ≡ arrival 4294967295 0) × (field_of "4294967295:0" ≡ None)
  pub tags : (field_of "0:4294967295" ≡ arrival 1 4294967295) × (field_of "0:4294967296" ≡ None)
  pub sizes_edge : (first_line_of "4294967295 0 00000000000004294967295" ≡ numbers 4294967295 0 4294967295) × (first_line_of "4294967296 0 0" ≡ unreadable)
  pub long : field_of "00000000000000:00000000000007" ≡ arrival 1 7
  -- another number of fields, or a field of another form
  pub spaces : (reads 2 "- - " ≡ false) × (reads 2 " - -" ≡ false) × (reads 2 "-  -" ≡ false) × (reads 3 "-  -" ≡ false) × (first_line_of "2 3 4 " ≡ unreadable)
  pub counts : (reads 2 "-" ≡ false) × (reads 2 "- - -" ≡ false) × (first_line_of "2 3" ≡ unreadable) × (first_line_of "2 3 4 5" ≡ unreadable)
  pub blank : (reads 1 "" ≡ false) × (first_line_of "" ≡ unreadable)
  pub forms : (field_of "1:2:3" ≡ None) × (field_of "--" ≡ None) × (field_of "-1:2" ≡ None) × (field_of "1" ≡ None)
  pub empties : (field_of ":2" ≡ None) × (field_of "1:" ≡ None) × (field_of ":" ≡ None)
  pub strangers : (field_of "+1:2" ≡ None) × (field_of "0x1:2" ≡ None) × (field_arrival (49 ∷ 58 ∷ 178 ∷ []) ≡ None)
  pub controls : (first_line_of "2 3 4\r" ≡ unreadable) × (first_line_of "2\t3 4" ≡ unreadable) × (first_line_of "2 3 4\0" ≡ unreadable)

pub line_examples : LineExamples
unfolding Lining first_line_of field_of reads
line_examples = record {
  sizes = refl;
  both_send = (refl, refl);
  one_sends_lem = (refl, refl);
  none_send = (refl, refl);
  outputs = (refl, refl);
  tags = (refl, refl);
  sizes_edge = (refl, refl);
  long = refl;
  spaces = (refl, refl, refl, refl, refl);
  counts = (refl, refl, refl, refl);
  blank = (refl, refl);
  forms = (refl, refl, refl, refl);
  empties = (refl, refl, refl);
  strangers = (refl, refl, refl);
  controls = (refl, refl, refl);
}
