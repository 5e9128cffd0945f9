-- They are listed behind none.
use Rattle.sift.specs.Lists.{lists_afresh}
use Rattle.sift.proofs.stretch.Stretch.blocks_where.Goals as goal

pub returns : goal.returns
returns g c = rw (← c.size.ensures) (lists_afresh c.list_from.ensures c.none-blocks.ensures)
