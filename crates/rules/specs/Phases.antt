-- Document 01, "One slot, t": inhale, reading, transfer phases with their match, exhale. A set of records is a test of their numbers.
-- Assumes nothing.
use Rattle.std.specs.Prelude.{ℕ, suc, pred, Bool, false, not, cond, ◌&&◌, ◌||◌, List, [], ◌∷◌, ltb, eqb, length, set, Option, Some, None}
use Rattle.laws.specs.Walk.{over}
use Rattle.laws.specs.Count.{count, any}
use Rattle.laws.specs.Least.{least, lowest, is_at}
use Rattle.laws.specs.Lists.{tabulate, blocks}
use Rattle.rules.specs.declared.Input.{Input}
use Rattle.rules.specs.declared.Output.{Output}
use Rattle.rules.specs.declared.Slot.{Slot}
use Rattle.rules.specs.declared.Cell.{Cell}
use Rattle.rules.specs.Cells.{most_ports, input_of, output_of, cell, free, nth, placed, is_free, is_waiting, is_ready_for, same_input, same_output, older, before}
use Rattle.rules.specs.Answers.{arrives, first_word, tag_word}

-- 1. Inhale ------------------------------------------------------------------------------------

-- "the lowest-numbered free record"
unfoldable pub lowest_free : List Cell → Option ℕ
lowest_free cs = lowest (λ k. is_free (nth cs k)) (length cs)

-- the cell that arrives at input i: "waiting, slot t"
abbrev pub arrival : Slot → List ℕ → ℕ → Cell
arrival t arrivals i = cell 1 (input_of i) (output_of (pred (first_word arrivals i))) t (tag_word arrivals i)

-- the table with c in the record that was found
abbrev pub store_at : Option ℕ → Cell → List Cell → List Cell
store_at (Some k) c cs = set cs k c
store_at None c cs = cs

-- "each arriving cell takes the lowest-numbered free record"
unfoldable pub enter : Slot → List ℕ → ℕ → List Cell → List Cell
enter t arrivals i cs = cond (arrives arrivals i) (store_at (lowest_free cs) (arrival t arrivals i) cs) cs

-- "By rising input"
unfoldable pub inhale : ℕ → Slot → List ℕ → List Cell → List Cell
inhale n t arrivals cs = over (enter t arrivals) cs n

-- 2. Reading -----------------------------------------------------------------------------------

-- "For each output, the ready cells are counted."
unfoldable pub ready_count : List Cell → Output → ℕ
ready_count cs o = count (λ k. is_ready_for o (nth cs k)) (length cs)

-- "The counts are read once, kept together for the slot"
unfoldable pub readings : List Cell → List ℕ
readings cs = tabulate most_ports (λ o. ready_count cs (output_of o))

-- 3. Transfer phases ---------------------------------------------------------------------------

-- "Two cells conflict when they share an input or an output."
unfoldable pub conflict : Cell → Cell → Bool
conflict c d = same_input c.input d.input || same_output c.output d.output

-- record k is a "waiting cell .. free of conflict with those picked"
unfoldable pub is_open : List Cell → (ℕ → Bool) → ℕ → Bool
is_open cs picked k = is_waiting (nth cs k) && not (any (λ j. picked j && conflict (nth cs j) (nth cs k)) (length cs))

-- of those, the one that stands before the others
unfoldable pub first_open : List ℕ → List Cell → (ℕ → Bool) → Option ℕ
first_open r cs picked = least (is_open cs picked) (λ i j. before r (nth cs i) (nth cs j)) (length cs)

-- no record, and a set with one record more
unfoldable pub none : ℕ → Bool
none k = false

unfoldable pub add : (ℕ → Bool) → ℕ → ℕ → Bool
add picked k j = picked j || eqb j k

-- the set with the record that was found
abbrev pub add_found : (ℕ → Bool) → Option ℕ → ℕ → Bool
add_found picked (Some k) = add picked k
add_found picked None = picked

-- a round of picking; once no waiting cell is free of conflict, a round picks nothing
unfoldable pub round : List ℕ → List Cell → (ℕ → Bool) → ℕ → Bool
round r cs picked = add_found picked (first_open r cs picked)

-- the match, by picking: N rounds are enough, since each takes one more of N outputs. `Match` in Model.antt says what a match is.
unfoldable pub match_of : ℕ → List ℕ → List Cell → ℕ → Bool
match_of n r cs = over (λ i picked. round r cs picked) none n

-- "The taken inputs and the taken outputs are two sets of ports"
unfoldable pub is_taken_input : (ℕ → Bool) → List Cell → Input → Bool
is_taken_input m cs i = any (λ k. m k && same_input (nth cs k).input i) (length cs)

unfoldable pub is_taken_output : (ℕ → Bool) → List Cell → Output → Bool
is_taken_output m cs o = any (λ k. m k && same_output (nth cs k).output o) (length cs)

-- "a phase moves as many cells as there are taken outputs"
unfoldable pub moves : ℕ → (ℕ → Bool) → List Cell → ℕ
moves n m cs = count (λ o. is_taken_output m cs (output_of o)) n

-- "Its cells become ready; their records change in the place only."
unfoldable pub moved : (ℕ → Bool) → List Cell → List Cell
moved m cs = tabulate (length cs) (λ k. cond (m k) (placed 2 (nth cs k)) (nth cs k))

-- one transfer phase
unfoldable pub phase : ℕ → List ℕ → List Cell → List Cell
phase n r cs = moved (match_of n r cs) cs

-- the table after j transfer phases, all by one reading
unfoldable pub phases : ℕ → List ℕ → List Cell → ℕ → List Cell
phases n r cs j = over (λ i u. phase n r u) cs j

-- "0, or 1 + the input served"
abbrev pub served_word : List Cell → Option ℕ → ℕ
served_word cs (Some k) = suc (nth cs k).input.0
served_word cs None = 0

-- a phase's words, "For each output"
unfoldable pub match_words : ℕ → (ℕ → Bool) → List Cell → List ℕ
match_words n m cs = tabulate n (λ o. served_word cs (lowest (λ k. m k && same_output (nth cs k).output (output_of o)) (length cs)))

-- "Matches: S × N words, phase after phase."
unfoldable pub matches : ℕ → List ℕ → List Cell → ℕ → List ℕ
matches n r cs s = blocks s (λ j. let u : List Cell = phases n r cs j in match_words n (match_of n r u) u)

-- 4. Exhale ------------------------------------------------------------------------------------

-- "of its ready cells, the first by slot and then input"
unfoldable pub oldest_ready : List Cell → Output → Option ℕ
oldest_ready cs o = least (λ k. is_ready_for o (nth cs k)) (λ i j. older (nth cs i) (nth cs j)) (length cs)

-- record k is what its output emits
unfoldable pub is_emitted : ℕ → List Cell → ℕ → Bool
is_emitted n cs k = ltb (nth cs k).output.0 n && is_at k (oldest_ready cs (nth cs k).output)

-- "The emitted cell's record becomes free, all zeros."
unfoldable pub exhale : ℕ → List Cell → List Cell
exhale n cs = tabulate (length cs) (λ k. cond (is_emitted n cs k) free (nth cs k))

-- "1, input, slot of entry, tag; or four zeros"
abbrev pub emitted_words : List Cell → Option ℕ → List ℕ
emitted_words cs (Some k) = 1 ∷ (nth cs k).input.0 ∷ (nth cs k).entered.0 ∷ (nth cs k).tag ∷ []
emitted_words cs None = 0 ∷ 0 ∷ 0 ∷ 0 ∷ []

-- "Exhaled: 4N words. For each output"
unfoldable pub exhaled : ℕ → List Cell → List ℕ
exhaled n cs = blocks n (λ o. emitted_words cs (oldest_ready cs (output_of o)))
