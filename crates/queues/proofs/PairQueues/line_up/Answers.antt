-- The queues are those of the records below the one that is given, so it can join them.
use Rattle.queues.specs.Lining.{next_joins}
use Rattle.queues.proofs.PairQueues.line_up.Goals as goal

pub join-requires : goal.join-requires
join-requires c = let i = c.loop-k.invariant in next_joins i.words i.bits_are i.lined c.requires.lineable c.in-Some.ensures.steps.next
