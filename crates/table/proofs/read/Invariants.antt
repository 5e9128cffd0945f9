-- The counts of the ready records that the walk has passed; those that it does not give are not ready.
use Rattle.table.specs.Reading.{Counted, Passed}
use Rattle.table.proofs.read.Given as goal

abbrev pub invariant-loop-k : goal.invariant-loop-k
invariant-loop-k l = Passed (Counted l.table l.reading.counts) l.table l.k-iterator
