-- Each block of the list is one of the stretch, behind those below; what lies between two of them, and behind the last, lacks the bits.
use Rattle.std.proofs.Common.{◌≡◌, ◌+◌, ◌*◌, ◌<◌, length, arith, add-one}
use Rattle.laws.specs.Sifted.{past, blocks_between, blocks-behind}
use Rattle.sift.specs.Stretch.{block, listed_none, listed_skip}
use Rattle.sift.proofs.stretch.Stretch.list_within.Goals as goal

pub loop-b-init : goal.loop-b-init
loop-b-init c = rw c.clear.ensures (listed_none _ _ _ _)

pub list_between-requires-clause-listed : goal.list_between-requires-clause-listed
list_between-requires-clause-listed c =
    let j = c.loop-b.b-index in
    let l : j < length c.args.blocks.now = omega arith in
    let e = c.from-from.ensures in
    let r = c.requires.rising j l in
    listed_skip c.loop-b.invariant _ (omega (arith, r.0, e)) (rw e (blocks_between block (omega arith) _ c.requires j l))

pub loop-b-preserved : goal.loop-b-preserved
loop-b-preserved c =
    let j = c.loop-b.b-index in
    let e = c.from-from.ensures in
    let q : past c.args.blocks.now (j + 1) * block ≡ c.from-from.result * block + block = rw (add-one j) (omega (arith, e)) in
    rw q c.list_between.ensures

pub list_between-requires-2-clause-listed : goal.list_between-requires-2-clause-listed
list_between-requires-2-clause-listed c =
    let e : c.loop-b.b-index ≡ length c.args.blocks.now = omega arith in
    rw c.size-size.ensures
    (listed_skip (rw e at c.loop-b.invariant) _ (omega (arith, c.requires.reach)) (blocks-behind block (omega arith) _ c.requires))
