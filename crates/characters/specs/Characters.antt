-- The bytes of document 01's lines, read and printed: what stands between fields and behind lines, and what digits are.
-- Assumes nothing.
use Rattle.std.specs.Prelude.{ℕ, ◌+◌, ◌*◌, ◌-◌, Bool, ◌&&◌, List, leb}
use Rattle.laws.specs.Folds.{fold}

abbrev pub space : ℕ
space = 32

abbrev pub newline : ℕ
newline = 10

abbrev pub dash : ℕ
dash = 45

abbrev pub colon : ℕ
colon = 58

abbrev pub first_digit : ℕ
first_digit = 48

abbrev pub last_digit : ℕ
last_digit = 57

-- "Numbers are decimal digits"
unfoldable pub is_digit : ℕ → Bool
is_digit b = leb first_digit b && leb b last_digit

abbrev pub digit_byte : ℕ → ℕ
digit_byte n = first_digit + n

-- what a number becomes by one digit more, and what digits come to
unfoldable pub push : ℕ → ℕ → ℕ
push v b = v * 10 + (b - first_digit)

unfoldable pub value : List ℕ → ℕ
value f = fold push 0 f
