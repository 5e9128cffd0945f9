-- The table is what the inputs below i leave, and below the cursor no record is free.
use Rattle.buffers.specs.Inhale.{Inhaling}
use Rattle.buffers.proofs.inhale.Given as goal

abbrev pub invariant-loop-i : goal.invariant-loop-i
invariant-loop-i l = Inhaling l.t l.arrivals l.fn.table l.i l.table l.from
