-- A number without a digit stays so at its end.
-- Assumes nothing.
use Rattle.std.proofs.Common.{◌∙◌, sym}
use Rattle.text.specs.Parts.{taken_here}
use Rattle.text.proofs.number.Number.read.Goals as goal

pub returns-in-Empty-clause-taken : goal.returns-in-Empty-clause-taken
returns-in-Empty-clause-taken c =
    rw c.in-Empty.is (taken_here _ _ _ _ _ c.args.piece.now.inside (sym c.is_at_end.ensures ∙ c.if-is_at_end.true))
