-- The records of the blocks that are not listed are free, and have no strays.
use Rattle.std.proofs.Common.{◌≡◌, ◌+◌, ◌*◌, ◌<◌, arith, add-one, get_or}
use Rattle.laws.specs.Sifted.{past}
use Rattle.sift.specs.Lists.{read_front}
use Rattle.sift.specs.Stretch.{block}
use Rattle.fit_check.specs.Blocks.{free_between, free-behind}
use Rattle.fit_check.specs.Sound.{strays_join, strays_skip}
use Rattle.fit_check.proofs.strays_within.Goals as goal

pub loop-b-preserved : goal.loop-b-preserved
loop-b-preserved c =
    let i = c.loop-b in
    let d = c.requires in
    let bs = c.args.blocks.now in
    let l : i.b-index < bs.count = omega arith in
    let x = read_front bs.list c.as_slice-b-items.ensures.0 l c.from.ensures in
    let r = d.rising i.b-index l in
    let skipped = strays_skip _ (omega (arith, r.0)) i.invariant (free_between _ _ d i.b-index l) in
    let e : c.args.stretch.start + past bs.list (i.b-index + 1) * block ≡ c.args.stretch.start + get_or bs.list i.b-index 0 * block + block = rw (add-one i.b-index) (omega arith) in
    rw e (strays_join (omega arith) skipped (rw x at c.strays_among-all.ensures))

pub returns : goal.returns
returns c =
    let s = c.args.stretch in
    let d = c.requires in
    let e : c.loop-b.b-index ≡ c.args.blocks.now.count = omega arith in
    let skipped = strays_skip _ (omega (arith, d.reach)) (rw e at c.loop-b.invariant) (free-behind _ _ d) in
    strays_join (omega (arith, s.is_stretch)) (rw (← c.size.ensures) at skipped) c.strays_among.ensures
