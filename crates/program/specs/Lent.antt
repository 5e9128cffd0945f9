-- What a caller lends to the program, how long it is and how much room there is.
-- Assumes nothing.
use Rattle.std.specs.Prelude.{ℕ, ◌+◌, ◌*◌, ◌≡◌, cond, List, ltb, replicate}
use Rattle.rules.specs.declared.Switch.{Switch}
use Rattle.rules.specs.Cells.{most_ports, most_speedup, most_records, width}
use Rattle.rules.specs.Answers.{arrival_width, exhaled_width}
use Rattle.printing.specs.Printed.{line_bytes}

-- lengths -----------------------------------------------------------------------------------------

-- one record more than the largest table
abbrev pub most_lent : ℕ
most_lent = most_records + 1

abbrev pub lent_table_words : ℕ
lent_table_words = most_lent * width

abbrev pub arrival_words : ℕ
arrival_words = most_ports * arrival_width

-- what a line's end may print: a line for each output
abbrev pub end_room : ℕ
end_room = most_ports * line_bytes

-- the words of a slot's other two lists, for the largest numbers
abbrev pub moved_words : ℕ
moved_words = most_speedup * most_ports

abbrev pub lent_entry_words : ℕ
lent_entry_words = most_ports * exhaled_width

-- the words that are lent for a table of k records
unfoldable pub lent_words : ℕ → ℕ
lent_words k = cond (ltb k most_lent) (k * width) lent_table_words

-- what is lent ------------------------------------------------------------------------------------

abbrev pub blank : ℕ → List ℕ
blank n = replicate n 0

-- a slot's other two lists have the lengths that go with the numbers, and nothing in them
pub record Blank (w : Switch) (matches exhaled : List ℕ) : Type 0 where
  pub no_matches : matches ≡ blank (w.speedup * w.ports)
  pub none-exhaled : exhaled ≡ blank (w.ports * exhaled_width)
