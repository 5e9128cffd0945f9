-- The page stays as long as it was.
use Rattle.std.proofs.Common.{◌≡◌, length}
use Rattle.treikwater.proofs.run.Given as goal

abbrev pub invariant-loop : goal.invariant-loop
invariant-loop g l = length l.out.bytes.now ≡ length l.fn.out.bytes.now
