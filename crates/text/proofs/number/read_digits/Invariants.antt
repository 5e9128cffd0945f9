-- What the loop has passed are digits, and their steps come to the value; the first byte that `grown` does not take makes the number none.
-- Assumes nothing.
use Rattle.std.proofs.Common.{◌≡◌, length, ◌-◌}
use Rattle.characters.specs.Characters.{is_digit}
use Rattle.text.specs.declared.number.Number.TheVariants.{Value}
use Rattle.text.specs.Steps.{number_step}
use Rattle.text.specs.Parts.{Stepped}
use Rattle.text.proofs.number.read_digits.Given as goal

abbrev pub invariant-loop-byte : goal.invariant-loop-byte
invariant-loop-byte l = record {
  digits : Stepped number_step is_digit l.fn.piece.bytes.now (Value l.fn.value) l.fn.piece.next (Value l.read) l.piece.next;
  same_bytes : l.piece.bytes.now ≡ l.fn.piece.bytes.now;
}

abbrev pub decreases-loop-byte : goal.decreases-loop-byte
decreases-loop-byte l = length l.fn.piece.bytes.now - l.piece.next
