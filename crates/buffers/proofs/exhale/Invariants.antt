-- The outputs below o have emitted.
use Rattle.buffers.specs.Exhale.{Exhaling}
use Rattle.buffers.proofs.exhale.Given as goal

abbrev pub invariant-loop-o : goal.invariant-loop-o
invariant-loop-o l = Exhaling l.fn.table l.o l.table l.list
