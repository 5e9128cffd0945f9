-- What is printed is what the answer asks for.
use Rattle.program.specs.Answered.{done_text}
use Rattle.program.proofs.outcome.put_outcome.Goals as goal

pub returns-in-Ok : goal.returns-in-Ok
returns-in-Ok c = rw (c.in-Ok.is, done_text c.args.numbers _ c.args.exhaled.now) c.put_cells.ensures
