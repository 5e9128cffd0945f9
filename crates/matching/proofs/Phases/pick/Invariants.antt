-- After i rounds the table, the taken ports and the inputs served show the cells that i rounds of the rules pick, and the queues are the table's;
-- the outputs kept stay those with the lowest reading.
use Rattle.std.proofs.Common.{◌≡◌}
use Rattle.matching.specs.Rounds.{AfterRounds}
use Rattle.matching.proofs.Phases.pick.Given as goal

abbrev pub invariant-rounds : goal.invariant-rounds
invariant-rounds l = record {
  table : l.self.table.ghost_name ≡ l.fn.self.table.ghost_name;
  rounds : AfterRounds l.ports l.r.counts l.fn.self.table.now l.self.table.now l.self.queues.now l.picked.taken l.picked.served l.lows.mask l.counter;
}
