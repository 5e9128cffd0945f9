-- Each turn compares one ready record more with what was found; the records between two that are listed are not ready.
use Rattle.std.proofs.Common.{◌≡◌, ◌+◌, arith, get_or}
use Rattle.laws.specs.Least.{least_more, least_below}
use Rattle.sift.specs.Stretch.{pass_begins, pass_turn, pass_more, pass_ends, listed_front}
use Rattle.table.specs.Reading.{oldest_keeps}
use Rattle.table.proofs.oldest_within.Goals as goal

pub loop-x-init : goal.loop-x-init
loop-x-init c = pass_begins c.args.stretch.is_stretch (listed_front c.list_with.ensures c.as_slice-x-items.ensures) c.requires

pub older_of-found-requires-clause-k_bound : goal.older_of-found-requires-clause-k_bound
older_of-found-requires-clause-k_bound c = let t = pass_turn c.loop-x.invariant oldest_keeps c.loop-x-test.true in rw c.from.ensures t.inside

pub older_of-found-requires-clause-below : goal.older_of-found-requires-clause-below
older_of-found-requires-clause-below c =
    let t = pass_turn c.loop-x.invariant oldest_keeps c.loop-x-test.true in rw (c.from.ensures, t.below.is) (least_below _ _ _)

pub overflow_add-stretch : goal.overflow_add-stretch
overflow_add-stretch c = let t = pass_turn c.loop-x.invariant oldest_keeps c.loop-x-test.true in record { fits = omega arith }

pub loop-x-preserved : goal.loop-x-preserved
loop-x-preserved c =
    let t = pass_turn c.loop-x.invariant oldest_keeps c.loop-x-test.true in
    pass_more c.loop-x.invariant c.loop-x-test.true (record { is = rw least_more (rw (← t.below.is, ← c.from.ensures) c.older_of-found.ensures) })

pub returns : goal.returns
returns c = pass_ends c.loop-x.invariant oldest_keeps (omega arith)
