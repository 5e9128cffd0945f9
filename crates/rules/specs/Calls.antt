-- Document 01, "Numbers given back", "One slot, t" and "Sizes": what a fresh start and a slot return and leave, for every input; and runs of calls.
-- Assumes nothing.
use Rattle.std.specs.Prelude.{ℕ, suc, cond, List, [], ◌∷◌, length, replicate}
use Rattle.rules.specs.declared.Cell.{Cell}
use Rattle.rules.specs.declared.Switch.{Switch}
use Rattle.rules.specs.Cells.{at_slot, cells_of, words_of}
use Rattle.rules.specs.Answers.{Answer, Lists, done, is_done, fresh_answer, slot_answer}
use Rattle.rules.specs.Phases.{inhale, readings, phases, matches, exhale, exhaled}

-- "makes t 0"; "an accepted slot raises t by 1, nothing else there changes"
abbrev pub restarted : Switch → Switch
restarted w = at_slot w 0

abbrev pub raised : Switch → Switch
raised w = at_slot w (suc w.next.0)

-- Fresh start ----------------------------------------------------------------------------------

pub record Started : Type 0 where
  pub answer : Answer
  pub numbers : Switch
  pub table : List ℕ

-- "handed the wanted N and S among these numbers, does not look at t, and makes t 0 and every record free"
abbrev pub starts_fresh : Switch → List ℕ → Started
starts_fresh w table = record { answer = done; numbers = restarted w; table = replicate (length table) 0 }

-- "A refusal returns the switch's numbers as they came and leaves the table .. as found"
abbrev pub start_refused : Answer → Switch → List ℕ → Started
start_refused a w table = record { answer = a; numbers = w; table = table }

unfoldable pub fresh_start : Switch → List ℕ → Started
fresh_start w table = let a : Answer = fresh_answer w table in cond (is_done a) (starts_fresh w table) (start_refused a w table)

-- A slot ---------------------------------------------------------------------------------------

pub record Outcome : Type 0 where
  pub answer : Answer
  pub numbers : Switch
  pub table : List ℕ
  pub matches : List ℕ
  pub exhaled : List ℕ

-- the table at the end of the inhale, and at the end of the last transfer phase
unfoldable pub entered : Switch → List ℕ → List Cell → List Cell
entered w arrivals cs = inhale w.ports w.next arrivals cs

unfoldable pub transferred : Switch → List Cell → List Cell
transferred w cs = phases w.ports (readings cs) cs w.speedup

-- "An accepted slot writes every word of the matches and the exhaled list"
unfoldable pub slot_runs : Switch → List ℕ → List ℕ → Outcome
slot_runs w table arrivals =
    let full : List Cell = entered w arrivals (cells_of table) in
    let ready : List Cell = transferred w full in
    record {
      answer = done;
      numbers = raised w;
      table = words_of (exhale w.ports ready);
      matches = matches w.ports (readings full) full w.speedup;
      exhaled = exhaled w.ports ready;
    }

-- "A refusal returns the switch's numbers as they came and leaves the table and all three lists as found"
abbrev pub slot_refused : Answer → Switch → List ℕ → Lists → Outcome
slot_refused a w table l = record { answer = a; numbers = w; table = table; matches = l.matches; exhaled = l.exhaled }

unfoldable pub slot : Switch → List ℕ → Lists → Outcome
slot w table l = let a : Answer = slot_answer w table l in cond (is_done a) (slot_runs w table l.arrivals) (slot_refused a w table l)

-- Runs -----------------------------------------------------------------------------------------

-- the numbers in force, and the table
pub record State : Type 0 where
  pub numbers : Switch
  pub table : List ℕ

-- a fresh start with any numbers, or a slot with any lists
pub data Call : Type 0 where
  starts : Switch → Call
  slots : Lists → Call

pub record Answered : Type 0 where
  pub answer : Answer
  pub after : State
  pub matches : List ℕ
  pub exhaled : List ℕ

-- "if it is refused, the switch's earlier numbers stay in force"; a fresh start has no lists
abbrev pub by_start : Switch → Started → Answered
by_start earlier s =
    record { answer = s.answer; after = record { numbers = cond (is_done s.answer) s.numbers earlier; table = s.table }; matches = []; exhaled = [] }

abbrev pub by_slot : Outcome → Answered
by_slot s = record { answer = s.answer; after = record { numbers = s.numbers; table = s.table }; matches = s.matches; exhaled = s.exhaled }

-- what a call answers, and what it leaves
unfoldable pub does : State → Call → Answered
does x (starts w) = by_start x.numbers (fresh_start w x.table)
does x (slots l) = by_slot (slot x.numbers x.table l)

-- the state after some calls
unfoldable pub run : State → List Call → State
run x [] = x
run x (c ∷ cs) = run (does x c).after cs
