-- Document 01, "The program": the lines that are printed, as bytes, and how long they get.
-- Assumes nothing.
use Rattle.std.specs.Prelude.{ℕ, zero, suc, ◌+◌, ◌*◌, ◌/◌, ◌%◌, true, false, cond, List, [], ◌∷◌, ◌++◌, eqb, ltb, length, get_or}
use Rattle.laws.specs.Lists.{blocks}
use Rattle.laws.specs.Texts.{bytes}
use Rattle.characters.specs.Characters.{space, newline, digit_byte}

-- the digits of n, at most k of them from the right
unfoldable pub digits : ℕ → ℕ → List ℕ
digits zero n = []
digits (suc k) n = elim (ltb n 10) [ true ↦ digit_byte n ∷ [] | false ↦ digits k (n / 10) ++ (digit_byte (n % 10) ∷ []) ]

-- "Numbers are decimal digits": without leading zeros; n has no more than n + 1 digits
unfoldable pub decimal : ℕ → List ℕ
decimal n = digits (suc n) n

-- a number and the byte behind it
unfoldable pub field : ℕ → ℕ → List ℕ
field n b = decimal n ++ (b ∷ [])

-- numbers one space apart, and a newline behind the last
abbrev pub byte_after : ℕ → ℕ → ℕ
byte_after k n = cond (eqb (k + 1) n) newline space

abbrev pub field_at : List ℕ → ℕ → List ℕ
field_at l k = field (get_or l k 0) (byte_after k (length l))

unfoldable pub numbers_line : List ℕ → List ℕ
numbers_line l = blocks (length l) (field_at l)

-- "It prints a header"
unfoldable pub header_line : List ℕ
header_line = bytes "slot output input entered tag\n"

-- "then each emitted cell by slot and output: slot, output, input, slot of entry, tag": what an exhaled entry says of the cell comes last
unfoldable pub cell_line : ℕ → ℕ → List ℕ → List ℕ
cell_line slot output entry = field slot space ++ (field output space ++ numbers_line entry)

-- "A refused slot prints `refused` and the number"
unfoldable pub refused_line : ℕ → List ℕ
refused_line n = bytes "refused " ++ field n newline

-- "An unreadable line prints `unreadable`"
unfoldable pub unreadable_line : List ℕ
unreadable_line = bytes "unreadable\n"

-- "The last line is `held` and the number of live cells"
unfoldable pub held_line : ℕ → List ℕ
held_line n = bytes "held " ++ field n newline

-- how long they get -----------------------------------------------------------------------------

-- a number of 32 bits has at most ten digits; a field has a byte behind them
abbrev pub number_bytes : ℕ
number_bytes = 10

abbrev pub field_bytes : ℕ
field_bytes = number_bytes + 1

-- how many numbers a cell's line has: the slot and the output lead, and an entry's follow. It is the longest line.
abbrev pub lead_columns : ℕ
lead_columns = 2

abbrev pub columns : ℕ
columns = lead_columns + 3

abbrev pub line_bytes : ℕ
line_bytes = columns * field_bytes
