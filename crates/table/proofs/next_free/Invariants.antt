-- No record below k is free.
use Rattle.table.specs.Table.{NoneBelow}
use Rattle.table.proofs.next_free.Given as goal

abbrev pub invariant-loop-k : goal.invariant-loop-k
invariant-loop-k l = NoneBelow l.table l.k
