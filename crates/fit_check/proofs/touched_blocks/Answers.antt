-- A block that does not stay has only words that are 0.
use Rattle.std.proofs.Common.{rules, refl}
use Rattle.sift.specs.Lists.{lists_sifted}
use Rattle.fit_check.proofs.touched_blocks.Goals as goal

pub returns : goal.returns
returns c = lists_sifted c.blocks_where.ensures refl (λ b l g. search rules)
