-- What was read was passed. While no byte was read nothing was put, so that there is room for a first turn.
use Rattle.std.proofs.Common.{◌-◌, ◌≡◌, length}
use Rattle.program.specs.Coming.{stand, SameMemory, Goes}
use Rattle.program.proofs.Program.pass.Given as goal

abbrev pub invariant-loop-out : goal.invariant-loop-out
invariant-loop-out l = record {
  idle : l.piece.next ≡ l.fn.piece.next → l.out.count ≡ l.fn.out.count;
  same_memory : SameMemory l.fn.memory l.memory;
  goes : Goes (length l.fn.out.bytes.now) l.fn.piece (stand l.initial.program l.fn.memory.table.now l.fn.memory.arrivals.now) l.fn.out
      l.piece (stand l.program l.memory.table.now l.memory.arrivals.now) l.out;
}

abbrev pub decreases-loop-out : goal.decreases-loop-out
decreases-loop-out l = length l.piece.bytes.now - l.piece.next
