-- The head that was found is put in the place of the old one: it is one of the table's records, which all have names.
use Rattle.std.proofs.Common.{rules}
use Rattle.laws.specs.Least.{Below}
use Rattle.rules.specs.Cells.{most_records}
use Rattle.queues.specs.Heads.{head_fits}
use Rattle.queues.proofs.PairQueues.renew.Goals as goal

pub set_head-requires : goal.set_head-requires
set_head-requires c =
    let named : Below most_records c.look-found.result = rw c.look-found.ensures (head_fits c.requires) in
    search rules
