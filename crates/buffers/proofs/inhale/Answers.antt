-- Each arrival passes one more input.
use Rattle.buffers.specs.Inhale.{inhaling_more}
use Rattle.buffers.proofs.inhale.Goals as goal

pub loop-i-preserved : goal.loop-i-preserved
loop-i-preserved c = inhaling_more c.loop-i.invariant c.enter-from.ensures
