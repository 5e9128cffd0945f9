-- What was found is the first of the ready records below the next one listed; those that are not listed are not ready.
use Rattle.std.proofs.Common.{length}
use Rattle.sift.specs.Stretch.{ready_bit, Pass}
use Rattle.table.specs.Reading.{OldestFound}
use Rattle.table.proofs.oldest_within.Given as goal

abbrev pub invariant-loop-x : goal.invariant-loop-x
invariant-loop-x l =
    Pass (OldestFound l.stretch.table.now l.o l.found) l.stretch.table.now l.stretch.start l.stretch.end ready_bit l.x-items (length l.x-items) l.x-index
