-- A stretch that is not fit settles the table; after the last one every record is sound and alone.
use Rattle.std.proofs.Common.{refl, sym, ◌∙◌}
use Rattle.rules.specs.Cells.{fit}
use Rattle.words.specs.Words.{length-cells_of}
use Rattle.fit_check.specs.Walk.{fit_none}
use Rattle.fit_check.proofs.is_fit.Goals as goal

pub loop-stretch-init : goal.loop-stretch-init
loop-stretch-init c =
    let i = c.into_iter-stretch-iterator.ensures.into_iter_gives in
    let d = c.stretches-stretch-items.ensures in
    record { rest = record { words = rw i d.words; next = refl }; fits = rw (i, d.next) (fit_none _ _ _) }

pub is_stretch_fit-requires : goal.is_stretch_fit-requires
is_stretch_fit-requires c =
    let i = c.loop-stretch.invariant in
    let t = c.in-Some.ensures.steps in
    rw (t.words ∙ i.rest.words, t.start) i.fits

pub returns-then-not-is_stretch_fit : goal.returns-then-not-is_stretch_fit
unfolding fit
returns-then-not-is_stretch_fit c =
    let words = c.in-Some.ensures.steps.words ∙ c.loop-stretch.invariant.rest.words in
    sym ((rw words at c.is_stretch_fit.ensures).fails c.if-not-is_stretch_fit.true)

pub loop-stretch-preserved : goal.loop-stretch-preserved
loop-stretch-preserved c =
    let i = c.loop-stretch.invariant in
    let t = c.in-Some.ensures.steps in
    record {
      rest = record { words = t.goes.words ∙ i.rest.words; next = refl };
      fits = rw t.goes.next ((rw (t.words ∙ i.rest.words) at c.is_stretch_fit.ensures).fits c.if-not-is_stretch_fit.false);
    }

pub returns : goal.returns
unfolding fit
returns c =
    let i = c.loop-stretch.invariant in
    sym (rw (rw i.rest.words at c.in-None.ensures.steps, ← length-cells_of c.args.table.now) at i.fits.good)
