-- At each turn the steps over what was read came to the reader and the words; a field is read up to its end, and ends at a space.
-- Assumes nothing.
use Rattle.std.proofs.Common.{◌≡◌, length, ◌-◌}
use Rattle.text.specs.Steps.{line_state_of}
use Rattle.text.specs.Parts.{Reached}
use Rattle.text.proofs.SlotReader.read.Given as goal

abbrev pub invariant-loop-reader : goal.invariant-loop-reader
invariant-loop-reader l = record {
  reached : Reached l.fn.piece.bytes.now (line_state_of l.fn.self l.fn.words) l.fn.piece.next (line_state_of l.reader l.words) l.piece.next;
  same_bytes : l.piece.bytes.now ≡ l.fn.piece.bytes.now;
}

abbrev pub decreases-loop-reader : goal.decreases-loop-reader
decreases-loop-reader l = length l.fn.piece.bytes.now - l.piece.next
