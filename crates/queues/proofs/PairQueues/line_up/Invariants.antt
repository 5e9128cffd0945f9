-- The queues of the records that were passed: those that are not given do not wait.
use Rattle.std.proofs.Common.{◌≡◌}
use Rattle.rules.specs.Cells.{cells_of}
use Rattle.sift.specs.Stretch.{waiting_bit}
use Rattle.sift.specs.Walk.{reached}
use Rattle.queues.specs.Queues.{lined_to}
use Rattle.queues.proofs.PairQueues.line_up.Given as goal

abbrev pub invariant-loop-k : goal.invariant-loop-k
invariant-loop-k l = record {
  words : l.k-iterator.table.now ≡ l.table;
  bits_are : l.k-iterator.bits ≡ waiting_bit;
  lined : l.self ≡ lined_to (cells_of l.table) (reached l.k-iterator);
}
