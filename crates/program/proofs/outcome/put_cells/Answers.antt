-- Each output passed adds what it emitted to the lines on the page.
use Rattle.std.proofs.Common.{arith}
use Rattle.printing.specs.Prints.{put_none, put_then, put_size}
use Rattle.program.specs.Turns.{slot-none, slot_more}
use Rattle.program.proofs.outcome.put_cells.Goals as goal

pub loop-output-init : goal.loop-output-init
loop-output-init c = rw (slot-none c.args.slot c.args.exhaled.now) (put_none 0 _)

pub loop-output-preserved : goal.loop-output-preserved
loop-output-preserved c =
    rw (slot_more c.args.slot c.loop-output.output c.args.exhaled.now) (put_then c.loop-output.invariant c.put_output.ensures (omega arith))

pub put_output-requires-clause-room : goal.put_output-requires-clause-room
put_output-requires-clause-room c = omega (arith, put_size c.loop-output.invariant, c.requires, c.loop-output-test.true)
