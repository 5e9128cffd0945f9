-- "So demand 3 needs its speedup": document 01's example with N 2 and S 1, computed.
-- Assumes nothing.
use Rattle.std.specs.Prelude.{◌≡◌, refl, List, [], ◌∷◌, ◌+◌, ◌*◌, replicate}
use Rattle.std.proofs.Math.Bool.{So}
use Rattle.laws.specs.Tests.{No}
use Rattle.rules.specs.declared.Cell.{Cell}
use Rattle.rules.specs.Cells.{switch, width}
use Rattle.rules.specs.Answers.{arrives}
use Rattle.rules.specs.Phases.{arrival}
use Rattle.rules.specs.Calls.{State, Call, starts, does, run}
use Rattle.rules.specs.Demands.{is_accepted, runs_slot, unbroken, call_at, state_at, inhaled, elders, emits}
use Rattle.rules.specs.Computing.{Computing}
use Rattle.rules.specs.Examples.{arrivals_of, both_send, one_sends}

-- "N 2, S 1, fresh. Slot 0: both inputs send to output 0. Slot 1: input 1 sends to output 1."
abbrev pub origin : State
origin = record { numbers = switch 0 0 0; table = replicate (4 * width) 7 }

abbrev pub before_it : State
before_it = run origin (starts (switch 2 1 9) ∷ arrivals_of 2 1 both_send ∷ [])

abbrev pub calls : List Call
calls = arrivals_of 2 1 one_sends ∷ []

abbrev pub sent : Cell
sent = arrival before_it.numbers.next one_sends 1

pub record Example : Type 0 where
  pub starts_fresh_lem : So (is_accepted origin (starts (switch 2 1 9)))
  pub speedup : before_it.numbers.speedup ≡ 1
  pub ports : before_it.numbers.ports ≡ 2
  pub arrived : So (arrives one_sends 1)
  pub accepted : So (is_accepted before_it (arrivals_of 2 1 one_sends))
  pub whole : So (unbroken before_it calls)
  pub slot : So (runs_slot (state_at before_it calls 0) (call_at calls 0))
  -- "though k is 0": slot 1 is slot s + k
  pub due : (state_at before_it calls 0).numbers.next.0 ≡ before_it.numbers.next.0 + elders (inhaled before_it one_sends) sent
  -- "In slot 1 output 1 emits nothing"
  pub idle : No (emits (does (state_at before_it calls 0) (call_at calls 0)).exhaled sent.output.0)

pub example : Example
unfolding Computing
example = record { starts_fresh_lem = refl; speedup = refl; ports = refl; arrived = refl; accepted = refl; whole = refl; slot = refl; due = refl; idle = refl }
