-- A waiting record becomes its chain's top, and the head if it is the older.
use Rattle.std.proofs.Common.{◌≡◌, true}
use Rattle.rules.specs.Cells.{nth, is_waiting, cells_of}
use Rattle.queues.specs.Lining.{joined_by}
use Rattle.queues.proofs.PairQueues.join.Goals as goal

pub returns : goal.returns
returns c =
    let waits : is_waiting (nth (cells_of c.args.table.now) c.args.k) ≡ true = cc in
    joined_by c.requires waits c.cell_at-c.ensures c.link.ensures c.head.ensures c.older_finding-older.ensures c.set_head.ensures
