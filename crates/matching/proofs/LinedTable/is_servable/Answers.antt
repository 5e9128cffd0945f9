-- There is one where some sender is not taken.
use Rattle.std.proofs.Common.{arith}
use Rattle.ports.specs.PortLaws.{excepted}
use Rattle.matching.specs.Rounds.{servable_test}
use Rattle.matching.proofs.LinedTable.is_servable.Goals as goal

pub returns : goal.returns
returns c =
    rw c.is_empty.ensures
    (servable_test c.args.self.lined_up _ _ _ c.requires (rw c.senders.ensures at (excepted c.except.ensures)) (omega arith))
