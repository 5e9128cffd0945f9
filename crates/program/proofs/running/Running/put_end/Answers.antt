-- The last line comes behind the one that says that a line was not read.
use Rattle.std.proofs.Common.{arith}
use Rattle.printing.specs.Printed.{line_bytes}
use Rattle.printing.specs.Prints.{put_room, put_then}
use Rattle.program.specs.Program.{end_text}
use Rattle.program.proofs.running.Running.put_end.Goals as goal

pub put_held-requires-clause-room : goal.put_held-requires-clause-room
put_held-requires-clause-room c = put_room c.put_unreadable.ensures line_bytes (omega (arith, c.requires.room))

pub returns : goal.returns
unfolding end_text
returns c = put_then c.put_unreadable.ensures c.put_held.ensures (omega arith)
