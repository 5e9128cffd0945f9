-- The blocks listed are the first of the list.
use Rattle.laws.specs.Sifted.{sifted_front}
use Rattle.sift.proofs.stretch.Stretch.list_with.Goals as goal

pub list_within-requires : goal.list_within-requires
list_within-requires c = sifted_front c.list_blocks.ensures c.as_slice.ensures
