-- The one row: what is live and what arrives exceed the records.
use Rattle.std.proofs.Common.{arith}
use Rattle.rules.specs.Cells.{records, cells_of}
use Rattle.words.specs.Words.{length-cells_of}
use Rattle.ideal.specs.Inhale.{live_le, arriving_le}
use Rattle.checks.proofs.check_room.Goals as goal

pub overflow_add-needed : goal.overflow_add-needed
unfolding records
overflow_add-needed c =
    let t = c.args.table.now in
    record { fits = omega (arith, live_le (cells_of t), length-cells_of t, arriving_le c.args.w.ports c.args.arrivals.now) }
