-- What was found is the first of the ready records below the next stretch.
use Rattle.sift.specs.Stretches.{From}
use Rattle.table.specs.Reading.{OldestFound}
use Rattle.table.proofs.oldest_ready.Given as goal

abbrev pub invariant-loop-stretch : goal.invariant-loop-stretch
invariant-loop-stretch l = record {
  rest : From l.table l.stretch-iterator.next l.stretch-iterator;
  is : OldestFound l.table l.o l.found l.stretch-iterator.next;
}
