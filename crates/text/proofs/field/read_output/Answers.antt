-- A number up to its colon, and the rest of the field from there; without a colon the number is all.
-- Assumes nothing.
use Rattle.std.proofs.Common.{refl}
use Rattle.text.specs.Parts.{output_taken, output_then, colon-taken}
use Rattle.text.proofs.Places.{passed, failed}
use Rattle.text.proofs.field.read_output.Goals as goal

pub returns-then-take-clause-taken : goal.returns-then-take-clause-taken
returns-then-take-clause-taken c =
    let same = c.read-output.ensures.same_bytes in
    let byte = passed _ _ same _ _ _ c.take.ensures.is c.if-take.true in
    let rest = rw (c.take.ensures.next, c.if-take.true, c.take.ensures.same_bytes, same) at c.read_behind_colon.ensures.taken in
    output_then _ _ _ _ _ _ _ c.read-output.ensures.taken (colon-taken _ _ _ _ _ _ byte.inside byte.here refl rest)

pub returns-else-take-clause-taken : goal.returns-else-take-clause-taken
returns-else-take-clause-taken c =
    rw (c.take.ensures.next, c.if-take.false)
    (output_taken _ _ _ _ _ (failed _ _ c.read-output.ensures.same_bytes _ _ _ c.take.ensures.is c.if-take.false) c.read-output.ensures.taken)
