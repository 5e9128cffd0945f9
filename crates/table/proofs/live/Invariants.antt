-- The count of live records below k.
use Rattle.std.proofs.Common.{◌≡◌}
use Rattle.table.specs.Table.{live_below}
use Rattle.table.proofs.live.Given as goal

abbrev pub invariant-loop-k : goal.invariant-loop-k
invariant-loop-k l = l.cells ≡ live_below l.table l.k
