-- After j phases the table is the rules' after j phases, the first j rows of words are theirs, and the queues are the table's.
use Rattle.std.proofs.Common.{◌≡◌}
use Rattle.matching.specs.Transfers.{AfterPhases}
use Rattle.matching.proofs.transfers.Given as goal

abbrev pub invariant-loop : goal.invariant-loop
invariant-loop l = record {
  table : l.phases.table.ghost_name ≡ l.initial.phases.table.ghost_name;
  after : AfterPhases l.ports l.speedup l.fn.r.counts l.fn.table l.phases.table.now l.phases.queues.now l.matches l.counter l.at;
}
