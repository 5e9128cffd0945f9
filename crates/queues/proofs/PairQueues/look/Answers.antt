-- The chain begins with the pair's top, goes down from a record to the next lower one, and ends where all of the pair have been looked at.
use Rattle.std.proofs.Common.{ap}
use Rattle.queues.specs.Layout.{top_word}
use Rattle.queues.specs.Chains.{down_top, down_below, down_less, down_on, down_all}
use Rattle.queues.proofs.PairQueues.look.Goals as goal

pub loop-k-init : goal.loop-k-init
loop-k-init c = down_top c.requires (ap (top_word c.args.self.now) c.number.ensures)

pub older_of-found-requires-clause-below : goal.older_of-found-requires-clause-below
older_of-found-requires-clause-below c = down_below c.loop-k.invariant

pub loop-k-smaller : goal.loop-k-smaller
loop-k-smaller c = down_less c.loop-k.invariant {k = c.in-Some.k} cc

pub loop-k-preserved : goal.loop-k-preserved
loop-k-preserved c = rw c.older_of-found.ensures (down_on c.loop-k.invariant {k = c.in-Some.k} cc)

pub returns : goal.returns
returns c = down_all c.loop-k.invariant cc
