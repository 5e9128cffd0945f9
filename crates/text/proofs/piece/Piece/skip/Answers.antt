-- The bytes before the first that ends what is read, counted from the place that the reading has come to.
-- Assumes nothing.
use Rattle.std.proofs.Common.{◌≡◌, ◌-◌, length, arith, take, drop, take_all, length-drop}
use Rattle.text.specs.Parts.{upto_first}
use Rattle.text.proofs.piece.Piece.skip.Goals as goal

pub returns-clause-place : goal.returns-clause-place
returns-clause-place c =
    let b = c.args.self.now.bytes.now in
    let n = c.args.self.now.next in
    let rest : take (length b - n) (drop n b) ≡ drop n b = take_all (length b - n) (drop n b) (omega (arith, length-drop n b)) in
    rw (c.unwrap_or-before.ensures, c.end_in.ensures, rest) (upto_first _ b n c.args.self.now.inside)
