-- What demand 3 says of a run. The demands themselves, with this one shown, stand on one page, proofs/Demands.antt.
-- Assumes nothing.
use Rattle.std.specs.Prelude.{List, ◌∷◌, ℕ, ◌+◌, ◌≤◌, ◌<◌}
use Rattle.std.proofs.Math.Bool.{So}
use Rattle.rules.specs.declared.Switch.{Switch}
use Rattle.rules.specs.declared.Cell.{Cell}
use Rattle.rules.specs.Answers.{Lists, arrives}
use Rattle.rules.specs.Phases.{arrival}
use Rattle.rules.specs.Calls.{State, Call, starts, slots, does, run}
use Rattle.rules.specs.Demands.{is_accepted, runs_slot, unbroken, call_at, state_at, inhaled, elders, Leaves}

-- Demand 3, for runs of speedup `least` or more. A cell c enters in slot s with k cells for its output before it, counted at the end of that
-- slot's inhale, waiting and ready. Of the accepted slots from that one to the next accepted fresh start, the one with number s + k emits it,
-- at its own output, and no other slot and no other output does.
pub record LeavesOnTime (least : ℕ) : Type 0 where
  pub leaves : (start : State) (wanted : Switch) → So (is_accepted start (starts wanted)) → (earlier : List Call)
      → let x : State = run start (starts wanted ∷ earlier) in least ≤ x.numbers.speedup
      → (ls : Lists) → let entry : Call = slots ls in So (is_accepted x entry)
      → (i : ℕ) → i < x.numbers.ports → So (arrives ls.arrivals i)
      → let c : Cell = arrival x.numbers.next ls.arrivals i in
      let s : ℕ = x.numbers.next.0 in
      let k : ℕ = elders (inhaled x ls.arrivals) c in
      (later : List Call) → So (unbroken x (entry ∷ later)) → (j : ℕ)
      → let y : State = state_at x (entry ∷ later) j in
      let d : Call = call_at (entry ∷ later) j in
      So (runs_slot y d) → Leaves c (s + k) y.numbers (does y d).exhaled
