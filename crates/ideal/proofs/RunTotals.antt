-- "Cells accepted .. equal cells emitted plus cells live": through any calls since the last accepted fresh start.
use Rattle.std.specs.Prelude.{◌≡◌, cond, List, [], ◌∷◌, ℕ, ◌+◌, length}
use Rattle.std.proofs.Common.{⊎_elim, arith}
use Rattle.std.proofs.Math.Bool.{So}
use Rattle.laws.specs.Tests.{No, passes}
use Rattle.laws.specs.Count.{count}
use Rattle.rules.specs.declared.Switch.{Switch}
use Rattle.rules.specs.Cells.{cells_of}
use Rattle.rules.specs.Answers.{arriving, live}
use Rattle.rules.specs.Calls.{State, Call, starts, slots, does, run}
use Rattle.rules.specs.Demands.{is_accepted, restarts, runs_slot, emits, brings, emissions, since}
use Rattle.ideal.specs.Runs.{slot_accepts, slot-does, start_does, refused_leaves}
use Rattle.ideal.specs.Totals.{live-zeros}
use Rattle.ideal.proofs.Totals.{slot_total}

-- what a call brings, it emits or adds to what is held; an accepted fresh start begins anew
call_total : (x : State) (c : Call) (n m : ℕ) → n ≡ m + live (cells_of x.table)
    → cond (restarts x c) 0 (n + brings x c) ≡ cond (restarts x c) 0 (m + emissions x c) + live (cells_of (does x c).after.table)
unfolding restarts runs_slot brings emissions
call_total x (starts w) n m e = ⊎_elim yes' no' (passes (is_accepted x c))
  where
    c : Call
    c = starts w

    Goal : Type 0
    Goal = cond (is_accepted x c) 0 (n + 0) ≡ cond (is_accepted x c) 0 (m + 0) + live (cells_of (does x c).after.table)

    yes' : So (is_accepted x c) → Goal
    yes' h = rw (h, start_does x w h, live-zeros (length x.table))

    no' : No (is_accepted x c) → Goal
    no' h = rw (h, refused_leaves x c h) (omega arith)
call_total x (slots l) n m e = ⊎_elim yes' no' (passes (is_accepted x c))
  where
    c : Call
    c = slots l

    Goal : Type 0
    Goal =
        n + cond (is_accepted x c) (arriving x.numbers.ports l.arrivals) 0
        ≡ m + cond (is_accepted x c) (count (emits (does x c).exhaled) x.numbers.ports) 0 + live (cells_of (does x c).after.table)

    yes' : So (is_accepted x c) → Goal
    yes' h = rw (h, slot-does x l h) (omega (arith, slot_total (slot_accepts x l h)))

    no' : No (is_accepted x c) → Goal
    no' h = rw (h, refused_leaves x c h) (omega arith)

-- "Cells accepted since the fresh start, counted from the calls, equal cells emitted plus cells live."
pub run_total : (x : State) (calls : List Call) (n m : ℕ) → n ≡ m + live (cells_of x.table)
    → since brings n x calls ≡ since emissions m x calls + live (cells_of (run x calls).table)
unfolding since run
run_total x [] n m e = e
run_total x (c ∷ cs) n m e =
    run_total (does x c).after cs (cond (restarts x c) 0 (n + brings x c)) (cond (restarts x c) 0 (m + emissions x c)) (call_total x c n m e)

pub fresh_total : (x : State) (w : Switch) → So (is_accepted x (starts w)) → (calls : List Call)
    → since brings 0 x (starts w ∷ calls) ≡ since emissions 0 x (starts w ∷ calls) + live (cells_of (run x (starts w ∷ calls)).table)
unfolding since run restarts
fresh_total x w h calls = rw h (run_total (does x (starts w)).after calls 0 0 (rw (start_does x w h) (omega (arith, live-zeros (length x.table)))))
