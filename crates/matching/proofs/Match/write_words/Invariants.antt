-- The words are as many as they were, and the outputs that were visited have theirs.
use Rattle.std.proofs.Common.{◌≡◌, suc, length, get_or}
use Rattle.laws.specs.SetWalk.{Walked, Filled}
use Rattle.ports.specs.Ports.{has}
use Rattle.matching.proofs.Match.write_words.Given as goal

abbrev pub invariant-loop-o : goal.invariant-loop-o
invariant-loop-o l = record {
  long : length l.words ≡ length l.fn.words;
  walk : Walked (Filled (λ o. suc (get_or l.fn.self.served o 0))) (has l.fn.self.taken.outputs.mask) (has l.o-iterator.left.mask) l.words;
}
