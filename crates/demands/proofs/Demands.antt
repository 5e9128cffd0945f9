-- The demands, on one page; every word is a definition of rules. The contracts of the two public calls (crates/switch/src/lib.rt) say, with no
-- condition on what comes in, that what they return and leave is `fresh_start` and `slot` of rules; `program_runs`, at the end, takes that to
-- runs. A run is any state, with any numbers and any words in its table, a fresh start that is accepted there, and any calls after it: slots
-- and other fresh starts, accepted or refused.
-- Assumes nothing.
use Rattle.std.specs.Prelude.{◌≡◌, Bool, List, [], ◌∷◌, ℕ, ◌+◌, ◌≤◌, ◌<◌, length, get_or}
use Rattle.std.proofs.Math.Bool.{So}
use Rattle.std.proofs.Common.{arith}
use Rattle.laws.specs.Tests.{No, refuted}
use Rattle.rules.specs.declared.Switch.{Switch}
use Rattle.rules.specs.declared.Cell.{Cell}
use Rattle.rules.specs.Cells.{switch, cells_of, nth, is_live, fit, older}
use Rattle.rules.specs.Answers.{Lists, live}
use Rattle.rules.specs.Phases.{readings, match_of, phases, is_emitted}
use Rattle.rules.specs.Calls.{State, Call, starts, slots, Answered, does, run}
use Rattle.rules.specs.Model.{among, arrived, Slotted}
use Rattle.rules.specs.Demands.{is_accepted, call_at, state_at, inhaled, at_exhale, emits, emitted}
use Rattle.rules.specs.Demands.{brings, emissions, since, Ran, left}
use Rattle.rules.specs.Examples.{lists_of, arrivals_of, both_send, one_sends}
use Rattle.ideal.specs.Fit.{→fit}
use Rattle.ideal.specs.Cells.{live→}
use Rattle.ideal.proofs.Calls.{slot_meets, slot_distinct}
use Rattle.ideal.specs.Only.{slot-moves, slot_leaves}
use Rattle.ideal.specs.Runs as Runs
use Rattle.ideal.proofs.RunTotals.{fresh_total}
use Rattle.demands.proofs.States.{age_rule, by_age_ruled, Good, good}
use Rattle.demands.proofs.Departs as Departs
use Rattle.demands.specs.Needs.{origin, example}
use Rattle.demands.specs.Demands.{LeavesOnTime}

-- Demand 1. Every call has an answer, `(does x c).answer`, given exactly when its row says (Refusals.antt of ideal). A refused one changes no
-- number, no record, no word of a list.
pub refused_unchanged : (x : State) (c : Call) → No (is_accepted x c) → (does x c).after ≡ x
refused_unchanged = Runs.refused_leaves

pub refused_lists : (x : State) (ls : Lists) → No (is_accepted x (slots ls))
    → ((does x (slots ls)).matches ≡ ls.matches) × ((does x (slots ls)).exhaled ≡ ls.exhaled)
refused_lists = Runs.slot-lists

-- Demand 2. An accepted slot is one of the published model: the arriving cells enter, in phase j the cells of the match move, and each output
-- emits its first ready cell. Whatever else meets the model's conditions from the same table and arrivals moves and emits the same cells.
module _ (x : State) (ls : Lists) (accepted : So (is_accepted x (slots ls))) where
  -- the table after the inhale and j phases; the cells that then move; the cells that leave
  abbrev pub step : ℕ → List Cell
  step j = phases x.numbers.ports (readings (inhaled x ls.arrivals)) (inhaled x ls.arrivals) j

  abbrev pub moving : ℕ → Cell → Bool
  moving j = among (match_of x.numbers.ports (readings (inhaled x ls.arrivals)) (step j)) (step j)

  abbrev pub leaving : Cell → Bool
  leaving = among (is_emitted x.numbers.ports (step x.numbers.speedup)) (step x.numbers.speedup)

  pub published : Slotted x.numbers.speedup x.numbers.next (arrived x.numbers.ports x.numbers.next ls.arrivals) moving leaving
      (cells_of x.table) step (cells_of (does x (slots ls)).after.table)
  unfolding inhaled
  published = rw (Runs.slot-does x ls accepted) (slot_meets (Runs.slot_accepts x ls accepted))

  pub nothing_else : (y : ℕ → Cell → Bool) (g : Cell → Bool) (other : ℕ → List Cell) (last : List Cell)
      → Slotted x.numbers.speedup x.numbers.next (arrived x.numbers.ports x.numbers.next ls.arrivals) y g (cells_of x.table) other last
      → ((j : ℕ) → j < x.numbers.speedup → (c : Cell) → moving j c ≡ y j c) × ((c : Cell) → leaving c ≡ g c)
  unfolding inhaled
  nothing_else y g other last h = (slot-moves published h, slot_leaves published h (slot_distinct (Runs.slot_accepts x ls accepted)))

-- Demand 3. `LeavesOnTime` (specs/Demands.antt) says it for runs of a speedup; it holds at S 3 and more.
pub leaves_on_time : LeavesOnTime 3
leaves_on_time = record {
  leaves = λ start wanted fresh earlier fast. Departs.departs (run start (starts wanted ∷ earlier)) (good by_age_ruled start wanted fresh earlier) fast;
}

-- "So demand 3 needs its speedup."
pub needs_speedup : LeavesOnTime 1 → ⊥
needs_speedup h =
    refuted
    ((h.leaves origin (switch 2 1 9) example.starts_fresh_lem (arrivals_of 2 1 both_send ∷ []) (omega (arith, example.speedup))
    (lists_of 2 1 one_sends) example.accepted 1 (omega (arith, example.ports)) example.arrived
    [] example.whole 0 example.slot).then example.due).0
    example.idle

module _ (start : State) (wanted : Switch) (fresh : So (is_accepted start (starts wanted))) (calls : List Call) where
  abbrev reached : State
  reached = run start (starts wanted ∷ calls)

  holds : Good age_rule reached
  holds = good by_age_ruled start wanted fresh calls

  -- the table is fit throughout, accepted and refused calls alike
  pub fit_throughout : So (fit reached.numbers.ports reached.numbers.next (cells_of reached.table))
  fit_throughout = →fit reached.numbers.ports reached.numbers.next (cells_of reached.table) holds.fits

  -- "Cells accepted since the fresh start, counted from the calls, equal cells emitted plus cells live."
  pub conserved : since brings 0 start (starts wanted ∷ calls) ≡ since emissions 0 start (starts wanted ∷ calls) + live (cells_of reached.table)
  conserved = fresh_total start wanted fresh calls

  -- an accepted slot at S 3 or more; the table is the one at its exhale
  module _ (fast : 3 ≤ reached.numbers.speedup) (ls : Lists) (accepted : So (is_accepted reached (slots ls))) where
    abbrev table : List Cell
    table = at_exhale reached ls.arrivals

    abbrev shown : List ℕ
    shown = (does reached (slots ls)).exhaled

    -- "To be work-conserving, the switch must ensure that whenever there are any cells in the switch destined to output o at the beginning of an
    -- exhale phase b, output o exhales some cell during phase b." (report, 4.1)
    pub work_conserving : (k : ℕ) → k < length table → So (is_live (nth table k)) → So (emits shown (nth table k).output.0)
    work_conserving k l w = Departs.slot_works reached ls accepted by_age_ruled holds fast k l (live→ _ w)

    -- "To be order-conserving, the switch must ensure that whenever an output o exhales some cell c, there are no cells in the switch destined to
    -- output o that precede c according to the timestamp ordering." (report, 4.1)
    pub order_conserving : (o : ℕ) → o < reached.numbers.ports → So (emits shown o) → (k : ℕ) → k < length table → So (is_live (nth table k))
        → (nth table k).output.0 ≡ o → No (older (nth table k) (emitted shown o))
    order_conserving o m e k l w q = Departs.slot_orders reached ls accepted holds fast o m e k l (live→ _ w) q

-- One principle for runs: what an accepted fresh start makes and every accepted slot keeps holds throughout, since a refused call changes nothing.
pub throughout : (P : State → Type 0) → ((x : State) (w : Switch) → So (is_accepted x (starts w)) → P (does x (starts w)).after)
    → ((x : State) (ls : Lists) → So (is_accepted x (slots ls)) → P x → P (does x (slots ls)).after)
    → (start : State) (wanted : Switch) → So (is_accepted start (starts wanted)) → (calls : List Call) → P (run start (starts wanted ∷ calls))
throughout P made kept = Runs.from_fresh P kept made

-- A program whose calls each met their contract, on what the one before left, is such a run: its states and its lists are those of the rules.
pub program_runs : (x : State) (calls : List Call) (gave : List Answered) → Ran x calls gave
    → (left x gave ≡ run x calls) × ((d : Answered) (j : ℕ) → j < length calls → get_or gave j d ≡ does (state_at x calls j) (call_at calls j))
program_runs x calls gave r = (Runs.ran_left x calls gave r, Runs.ran_answers x calls gave r)
