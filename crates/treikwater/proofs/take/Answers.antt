-- What is put on a page leaves it as long as it was.
use Rattle.std.proofs.Common.{ap, length, ◌∙◌}
use Rattle.printing.specs.Prints.{put_size}
use Rattle.treikwater.proofs.take.Goals as goal

pub returns-then-is_err : goal.returns-then-is_err
returns-then-is_err g c = (put_size c.pass-program.ensures.goes.put).0 ∙ ap length c.clear.ensures.bytes ∙ c.loop-piece.invariant

pub loop-piece-preserved : goal.loop-piece-preserved
loop-piece-preserved g c = (put_size c.pass-program.ensures.goes.put).0 ∙ ap length c.clear.ensures.bytes ∙ c.loop-piece.invariant
