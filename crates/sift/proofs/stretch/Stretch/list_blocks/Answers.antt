-- A block that does not stay lacks the bits.
use Rattle.std.proofs.Common.{rules, refl}
use Rattle.sift.specs.Lists.{lists_afresh, lists_sifted}
use Rattle.sift.proofs.stretch.Stretch.list_blocks.Goals as goal

pub returns : goal.returns
returns c = rw (← c.size.ensures) (lists_sifted (lists_afresh c.list_from.ensures c.requires) refl (λ b l g. search rules))
