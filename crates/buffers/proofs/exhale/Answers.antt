-- No output has emitted at first, and each emission is one output more.
use Rattle.std.proofs.Common.{arith}
use Rattle.buffers.specs.Exhale.{exhaling_none, exhaling_more}
use Rattle.buffers.proofs.exhale.Goals as goal

pub loop-o-init : goal.loop-o-init
loop-o-init c = exhaling_none _ _

pub loop-o-preserved : goal.loop-o-preserved
loop-o-preserved c = exhaling_more (omega arith) c.loop-o.invariant c.emit.ensures
