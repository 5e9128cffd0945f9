-- The records of the stretches that were passed lack the bits, so nothing is listed.
use Rattle.std.proofs.Common.{◌≡◌}
use Rattle.sift.specs.Walk.{Passed}
use Rattle.sift.specs.Stretches.{From}
use Rattle.sift.proofs.walk.list_next.Given as goal

abbrev pub invariant-loop-stretch : goal.invariant-loop-stretch
invariant-loop-stretch l = record {
  rest : From l.table l.stretch-iterator.next l.stretch-iterator;
  passed : Passed l.table l.bits l.k l.stretch-iterator.next;
  none : l.listed.count ≡ 0;
}
