-- Down the chain: what was found is the oldest of the pair's cells from the record that the word names up.
use Rattle.queues.specs.Chains.{Down}
use Rattle.queues.proofs.PairQueues.look.Given as goal

abbrev pub invariant-loop-k : goal.invariant-loop-k
invariant-loop-k l = Down l.table l.self l.fn.pair.input l.fn.pair.output l.word l.found

abbrev pub decreases-loop-k : goal.decreases-loop-k
decreases-loop-k l = l.word
