-- What was found is the first of the cells for the outputs that were visited.
use Rattle.laws.specs.SetWalk.{Walked}
use Rattle.ports.specs.Ports.{has}
use Rattle.rules.specs.Cells.{cells_of}
use Rattle.matching.specs.Rounds.{AmongOutputs}
use Rattle.matching.proofs.LinedTable.first_among.Given as goal

abbrev pub invariant-loop-o : goal.invariant-loop-o
invariant-loop-o l =
    Walked (AmongOutputs (has l.inputs.mask) l.fn.outputs.mask (cells_of l.self.table.now))
    (has l.fn.outputs.mask) (has l.o-iterator.left.mask) l.found
