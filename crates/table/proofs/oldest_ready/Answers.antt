-- Each stretch brings what was found from its first record to its last.
use Rattle.std.proofs.Common.{refl, sym, ◌∙◌}
use Rattle.laws.specs.Least.{least_zero}
use Rattle.rules.specs.Phases.{oldest_ready}
use Rattle.words.specs.Words.{length-cells_of}
use Rattle.table.proofs.oldest_ready.Goals as goal

pub loop-stretch-init : goal.loop-stretch-init
loop-stretch-init c =
    let i = c.into_iter-stretch-iterator.ensures.into_iter_gives in
    let d = c.stretches-stretch-items.ensures in
    record { rest = record { words = rw i d.words; next = refl }; is = record { is = rw (i, d.next) (sym (least_zero _ _)) } }

pub oldest_within-found-requires : goal.oldest_within-found-requires
oldest_within-found-requires c =
    let i = c.loop-stretch.invariant in
    let t = c.in-Some.ensures.steps in
    rw (t.words ∙ i.rest.words, t.start) i.is

pub loop-stretch-preserved : goal.loop-stretch-preserved
loop-stretch-preserved c =
    let i = c.loop-stretch.invariant in
    let t = c.in-Some.ensures.steps in
    record {
      rest = record { words = t.goes.words ∙ i.rest.words; next = refl };
      is = rw t.goes.next (rw (t.words ∙ i.rest.words) at c.oldest_within-found.ensures);
    }

pub returns : goal.returns
unfolding oldest_ready
returns c =
    let i = c.loop-stretch.invariant in
    rw length-cells_of (rw (rw i.rest.words at c.in-None.ensures.steps) at i.is).is
