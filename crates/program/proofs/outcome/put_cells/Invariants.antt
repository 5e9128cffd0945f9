-- The outputs passed have their lines on the page.
use Rattle.std.proofs.Common.{◌*◌}
use Rattle.printing.specs.Printed.{line_bytes}
use Rattle.printing.specs.Prints.{Put}
use Rattle.program.specs.Program.{slot_text}
use Rattle.program.proofs.outcome.put_cells.Given as goal

abbrev pub invariant-loop-output : goal.invariant-loop-output
invariant-loop-output l = Put (l.output * line_bytes) l.fn.out (slot_text l.slot l.output l.exhaled) l.out
