-- Where nothing stands between the digits and the number's end, they are the number; otherwise the first byte there makes it none.
-- Assumes nothing.
use Rattle.std.proofs.Common.{◌≡◌, ◌∙◌, sym, arith, ltb-true, ltb-false}
use Rattle.text.specs.Parts.{value_whole, value_none}
use Rattle.text.proofs.number.read_value.Goals as goal

pub returns-then-skip-clause-taken : goal.returns-then-skip-clause-taken
returns-then-skip-clause-taken c =
    let u = rw c.read_digits-read.ensures.same_bytes at c.skip.ensures.place in
    value_none _ _ c.args.stop.no_digit _ _ _ _ _ c.read_digits-read.ensures.taken u (ltb-true _ _ (sym c.skip.ensures.any ∙ c.if-skip.true))

pub returns-else-skip-clause-taken : goal.returns-else-skip-clause-taken
returns-else-skip-clause-taken c =
    let u = rw c.read_digits-read.ensures.same_bytes at c.skip.ensures.place in
    let e : c.skip.new.self.next ≡ c.read_digits-read.new.piece.next =
    omega (arith, u.span.order, ltb-false _ _ (sym c.skip.ensures.any ∙ c.if-skip.false)) in
    rw e (value_whole _ _ c.args.stop.no_digit _ _ _ _ c.read_digits-read.ensures.taken (rw e at u))
