-- Records are laid out one after the other: the first k records of the words are those of the list.
use Rattle.records.specs.Layout.{LaidTo}
use Rattle.records.proofs.lay_out.Given as goal

abbrev pub invariant-loop-k : goal.invariant-loop-k
invariant-loop-k l = LaidTo l.cells l.k l.words
