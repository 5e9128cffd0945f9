-- Each turn takes a byte or more, and the page stays as long as it was.
use Rattle.std.proofs.Common.{◌≡◌, ◌-◌, length}
use Rattle.treikwater.proofs.take.Given as goal

abbrev pub invariant-loop-piece : goal.invariant-loop-piece
invariant-loop-piece g l = length l.out.bytes.now ≡ length l.fn.out.bytes.now

abbrev pub decreases-loop-piece : goal.decreases-loop-piece
decreases-loop-piece g l = length l.piece.bytes.now - l.piece.next
