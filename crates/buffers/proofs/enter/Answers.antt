-- No cell arrives, there is no room, or the cell takes the record found.
use Rattle.std.proofs.Common.{sym, arith}
use Rattle.std.proofs.Math.Numerals.{sub-one}
use Rattle.rules.specs.Answers.{first_word, tag_word}
use Rattle.buffers.specs.Inhale.{none-arrives, no_room, takes_room}
use Rattle.buffers.proofs.enter.Goals as goal

pub returns-in_default : goal.returns-in_default
unfolding first_word
returns-in_default c = none-arrives _ _ _ _ c.requires.none_below (omega (arith, rw c.from-at.ensures at c.in_default.ensures))

pub returns-in_default-next_free : goal.returns-in_default-next_free
unfolding first_word
returns-in_default-next_free c =
    no_room _ _ _ _ c.requires.none_below (λ z. omega (arith, rw c.from-at.ensures at c.in-Some.ensures)) (sym c.in_default-next_free.ensures)

pub returns : goal.returns
unfolding first_word tag_word
returns c =
    takes_room _ _ _ _ _ (sym c.in-Some-next_free.ensures) _ (λ z. omega (arith, rw c.from-at.ensures at c.in-Some.ensures))
    (rw (c.in-Some.ensures.1, sub-one, c.from-at.ensures) at c.put_cell.ensures)
