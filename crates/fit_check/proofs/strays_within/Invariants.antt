-- The strays of the records up to the block that was looked into last; the records of the blocks between are free.
use Rattle.std.proofs.Common.{◌+◌, ◌*◌}
use Rattle.laws.specs.Sifted.{past}
use Rattle.rules.specs.Cells.{cells_of}
use Rattle.sift.specs.Stretch.{block}
use Rattle.fit_check.specs.Sound.{Strays}
use Rattle.fit_check.proofs.strays_within.Given as goal

abbrev pub invariant-loop-b : goal.invariant-loop-b
invariant-loop-b l = Strays (cells_of l.stretch.table.now) l.stretch.start (l.stretch.start + past l.blocks.list l.b-index * block) l.all
