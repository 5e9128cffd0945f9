-- A dash begins a field, or an output from its first byte on; a field without a byte stays so at its end.
-- Assumes nothing.
use Rattle.std.proofs.Common.{◌<◌, refl, ◌∙◌, sym, length, arith}
use Rattle.text.specs.Parts.{taken_here, upto_further, start_dash, start_output}
use Rattle.text.proofs.Places.{passed, failed}
use Rattle.text.proofs.field.read_start.Goals as goal

pub returns-then-take-clause-taken : goal.returns-then-take-clause-taken
returns-then-take-clause-taken c =
    let byte = passed _ _ refl _ _ _ c.take.ensures.is c.if-take.true in
    start_dash _ _ _ _ byte.inside byte.here (rw (c.take.ensures.next, c.if-take.true, c.take.ensures.same_bytes) at c.read_dash.ensures.taken)

pub returns-then-is_at_end-clause-taken : goal.returns-then-is_at_end-clause-taken
returns-then-is_at_end-clause-taken c =
    let ends = rw (c.take.ensures.next, c.if-take.false, c.take.ensures.same_bytes) at c.is_at_end.ensures in
    rw (c.take.ensures.next, c.if-take.false) (taken_here _ _ _ _ _ c.args.piece.now.inside (sym ends ∙ c.if-is_at_end.true))

pub returns-else-is_at_end-clause-taken : goal.returns-else-is_at_end-clause-taken
returns-else-is_at_end-clause-taken c =
    let ends = rw (c.take.ensures.next, c.if-take.false, c.take.ensures.same_bytes) at c.is_at_end.ensures in
    let x = rw (c.take.ensures.next, c.if-take.false, c.take.ensures.same_bytes) at c.read_output.ensures.taken in
    let some = upto_further _ _ _ _ (sym ends ∙ c.if-is_at_end.false) x.place in
    let inside : c.args.piece.now.next < length c.args.piece.now.bytes.now = omega (arith, some, x.place.span.inside) in
    start_output _ _ _ _ some (failed _ _ refl _ _ _ c.take.ensures.is c.if-take.false inside) x
