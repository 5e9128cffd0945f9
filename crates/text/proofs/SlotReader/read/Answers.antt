-- A turn reads the line up to the end of the field that it has come to, or to the piece's, and then the space that ends the field.
-- Assumes nothing.
use Rattle.std.proofs.Common.{refl, ◌∙◌, arith}
use Rattle.text.specs.Parts.{stepped_none, ends-newline, line_field, line_space, line_taken}
use Rattle.text.proofs.Places.{passed, failed}
use Rattle.text.proofs.SlotReader.read.Goals as goal

pub loop-reader-init : goal.loop-reader-init
loop-reader-init c = record { reached = stepped_none _ _ _ _ _ c.args.piece.now.inside; same_bytes = refl }

pub returns-then-not-take-clause-taken : goal.returns-then-not-take-clause-taken
returns-then-not-take-clause-taken c =
    let same = c.loop-reader.invariant.same_bytes in
    let field = rw same at c.read-reader.ensures.taken in
    let none = c.if-not-take.true in
    let other = failed _ _ (c.read-reader.ensures.same_bytes ∙ same) _ _ _ c.take.ensures.is none in
    let reached = line_field _ _ _ _ _ _ _ _ c.loop-reader.invariant.reached refl field in
    rw (c.take.ensures.next, none) (line_taken _ _ _ _ _ reached (λ l. ends-newline _ (other l) (field.place.here l)))

pub loop-reader-preserved : goal.loop-reader-preserved
loop-reader-preserved c =
    let same = c.loop-reader.invariant.same_bytes in
    let field = rw same at c.read-reader.ensures.taken in
    let all = c.read-reader.ensures.same_bytes ∙ same in
    let taken = c.if-not-take.false in
    let byte = passed _ _ all _ _ _ c.take.ensures.is taken in
    record {
      reached = rw (c.take.ensures.next, taken)
          (line_space _ _ _ _ _ _ (line_field _ _ _ _ _ _ _ _ c.loop-reader.invariant.reached refl field) byte.inside (field.place.here byte.inside)
          (λ e. omega (arith, e, byte.here)) c.end_field-reader.ensures);
      same_bytes = c.take.ensures.same_bytes ∙ all;
    }
