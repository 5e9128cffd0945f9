-- What is listed is listed of the records up to the block that was looked into last; those of the blocks between lack the bits.
use Rattle.std.proofs.Common.{◌*◌}
use Rattle.laws.specs.Sifted.{past}
use Rattle.sift.specs.Stretch.{block, Listed}
use Rattle.sift.proofs.stretch.Stretch.list_within.Given as goal

abbrev pub invariant-loop-b : goal.invariant-loop-b
invariant-loop-b l = Listed l.self.table.now l.self.start (past l.blocks l.b-index * block) l.bits l.numbers.list l.numbers.count
