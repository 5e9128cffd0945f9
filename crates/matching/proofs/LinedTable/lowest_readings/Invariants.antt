-- The set has the lowest reading of the outputs that were visited, of those that are wanted and not taken.
use Rattle.laws.specs.SetWalk.{Walked}
use Rattle.ports.specs.Ports.{has, except_ports}
use Rattle.rules.specs.Cells.{cells_of}
use Rattle.queues.specs.Layout.{wanted}
use Rattle.matching.specs.Rounds.{Lowering}
use Rattle.matching.proofs.LinedTable.lowest_readings.Given as goal

abbrev pub invariant-loop-port : goal.invariant-loop-port
invariant-loop-port l =
    Walked (Lowering l.r.counts (has l.taken.inputs.mask) (cells_of l.self.table.now))
    (has (except_ports (wanted l.self.queues.now) l.taken.outputs.mask)) (has l.port-iterator.left.mask) l.lowest
