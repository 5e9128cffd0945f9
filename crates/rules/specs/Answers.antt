-- Document 01, "Lists" and "Numbers given back": what each number means, and the checks in the order of the table.
-- Assumes nothing.
use Rattle.std.specs.Prelude.{ℕ, ◌+◌, ◌*◌, Bool, not, cond, ◌&&◌, ◌||◌, List, [], ◌∷◌, ◌++◌, ltb, eqb, length, get_or, Result, Ok, Err}
use Rattle.laws.specs.Count.{count, any}
use Rattle.rules.specs.declared.Cell.{Cell}
use Rattle.rules.specs.declared.Switch.{Switch}
use Rattle.rules.specs.declared.Refusal.{Refusal}
use Rattle.rules.specs.declared.Refusal.TheVariants.{BadPorts, BadSpeedup, BadRecords, Unfit, BadLists, NoSuchOutput, ClockSpent, NoRoom}
use Rattle.rules.specs.Cells.{most_ports, most_speedup, most_records, last_slot, nth, is_live, is_whole, records, cells_of, fit}

-- what a call answers: that it is done, or why it is refused
abbrev pub Answer : Type 0
Answer = Result Unit Refusal

abbrev pub done : Answer
done = Ok tt

-- "0 means done", and the number of each refusal
abbrev pub number_of : Answer → ℕ
number_of (Ok u) = 0
number_of (Err BadPorts) = 1
number_of (Err BadSpeedup) = 2
number_of (Err BadRecords) = 3
number_of (Err Unfit) = 4
number_of (Err BadLists) = 5
number_of (Err NoSuchOutput) = 6
number_of (Err ClockSpent) = 7
number_of (Err NoRoom) = 8

unfoldable pub is_done : Answer → Bool
is_done a = eqb (number_of a) 0

-- The lists that a slot is called with ------------------------------------------------------------

pub record Lists : Type 0 where
  pub arrivals : List ℕ
  pub matches : List ℕ
  pub exhaled : List ℕ

abbrev pub lists : List ℕ → List ℕ → List ℕ → Lists
lists arrivals matches exhaled = record { arrivals = arrivals; matches = matches; exhaled = exhaled }

-- "Arrivals: 2N words. For each input: 0 for none, or output + 1; then the tag. After a 0 the tag is not looked at."
abbrev pub arrival_width : ℕ
arrival_width = 2

unfoldable pub first_word : List ℕ → ℕ → ℕ
first_word arrivals i = get_or arrivals (i * arrival_width) 0

unfoldable pub tag_word : List ℕ → ℕ → ℕ
tag_word arrivals i = get_or arrivals (i * arrival_width + 1) 0

unfoldable pub arrives : List ℕ → ℕ → Bool
arrives arrivals i = not (eqb (first_word arrivals i) 0)

-- how many cells arrive, and how many records are live
unfoldable pub arriving : ℕ → List ℕ → ℕ
arriving n arrivals = count (arrives arrivals) n

unfoldable pub live : List Cell → ℕ
live cs = count (λ k. is_live (nth cs k)) (length cs)

-- "Matches: S × N words", "Exhaled: 4N words"
abbrev pub exhaled_width : ℕ
exhaled_width = 4

unfoldable pub lengths_fit : Switch → Lists → Bool
lengths_fit w l =
    eqb (length l.arrivals) (w.ports * arrival_width)
    && eqb (length l.matches) (w.speedup * w.ports)
    && eqb (length l.exhaled) (w.ports * exhaled_width)

-- "0 or above"
unfoldable pub outside : ℕ → ℕ → Bool
outside x most = eqb x 0 || ltb most x

-- a row of the table: what is answered when it holds
pub record Check : Type 0 where
  pub holds : Bool
  pub answer : Answer

abbrev pub row : Bool → Refusal → Check
row b r = record { holds = b; answer = Err r }

-- "the first that holds is the answer, and none is given otherwise"
unfoldable pub first_of : List Check → Answer
first_of [] = done
first_of (c ∷ cs) = cond c.holds c.answer (first_of cs)

-- The rows, in groups. A group is checked as one, and a row that is added is added to its group.

-- sizes: rows 1 to 3. Words that are no whole records make no table.
abbrev pub size_checks : Switch → List ℕ → List Check
size_checks w table =
    row (outside w.ports most_ports) BadPorts
    ∷ row (outside w.speedup most_speedup) BadSpeedup
    ∷ row (not (is_whole table) || outside (records table) most_records) BadRecords
    ∷ []

-- the table: row 4
abbrev pub table_checks : Switch → List ℕ → List Check
table_checks w table = row (not (fit w.ports w.next (cells_of table))) Unfit ∷ []

-- the lists: row 5
abbrev pub list_checks : Switch → Lists → List Check
list_checks w l = row (not (lengths_fit w l)) BadLists ∷ []

-- what arrives: row 6
abbrev pub arrival_checks : Switch → List ℕ → List Check
arrival_checks w arrivals = row (any (λ i. ltb w.ports (first_word arrivals i)) w.ports) NoSuchOutput ∷ []

-- the clock: row 7
abbrev pub clock_checks : Switch → List Check
clock_checks w = row (eqb w.next.0 last_slot) ClockSpent ∷ []

-- room: row 8
abbrev pub room_checks : Switch → List ℕ → List ℕ → List Check
room_checks w table arrivals = row (ltb (records table) (live (cells_of table) + arriving w.ports arrivals)) NoRoom ∷ []

-- "A fresh start gives 0, 1, 2 or 3 only and does not read the old records."
abbrev pub fresh_checks : Switch → List ℕ → List Check
fresh_checks = size_checks

unfoldable pub fresh_answer : Switch → List ℕ → Answer
fresh_answer w table = first_of (fresh_checks w table)

-- "A slot may give any."
abbrev pub slot_checks : Switch → List ℕ → Lists → List Check
slot_checks w table l =
    size_checks w table ++ (table_checks w table ++ (list_checks w l ++ (arrival_checks w l.arrivals ++ (clock_checks w ++ room_checks w table l.arrivals))))

unfoldable pub slot_answer : Switch → List ℕ → Lists → Answer
slot_answer w table l = first_of (slot_checks w table l)
