-- The fields are or-ed in their order.
use Rattle.std.specs.Int.Bits.{or_zero_l}
use Rattle.laws.specs.Walk.{over}
use Rattle.laws.specs.Bits.{or_to}
use Rattle.fit_check.proofs.behind_place.Goals as goal

pub returns : goal.returns
unfolding or_to over
returns c = rw (or_zero_l c.args.c.input.0)
