-- What was found is the first of the cells at the inputs that were visited, of those that have a cell and are not taken.
use Rattle.laws.specs.SetWalk.{Walked}
use Rattle.ports.specs.Ports.{has, except_ports}
use Rattle.rules.specs.Cells.{cells_of}
use Rattle.queues.specs.Layout.{senders}
use Rattle.matching.specs.Rounds.{ForOutput}
use Rattle.matching.proofs.LinedTable.first_for.Given as goal

abbrev pub invariant-loop-i : goal.invariant-loop-i
invariant-loop-i l =
    Walked (ForOutput (has l.fn.inputs.mask) l.output.0 (cells_of l.self.table.now))
    (has (except_ports (senders l.self.queues.now l.output.0) l.fn.inputs.mask)) (has l.i-iterator.left.mask) l.found
