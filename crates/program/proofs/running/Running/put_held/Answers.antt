-- A table holds no more live cells than words, so their number fits.
use Rattle.std.proofs.Common.{arith, take, length-take-le}
use Rattle.program.specs.Turns.{live_small}
use Rattle.program.proofs.running.Running.put_held.Goals as goal

pub overflow_cast-live : goal.overflow_cast-live
overflow_cast-live c =
    omega (
      arith,
      c.held-live.ensures,
      live_small (take c.args.self.words c.args.table.now),
      length-take-le c.args.self.words c.args.table.now (omega (arith, c.args.self.lent, c.requires.table_long)),
    )
