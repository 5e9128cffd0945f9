-- Each turn counts one ready record more; the records between two that are given are not ready, and no count exceeds the records passed.
use Rattle.std.proofs.Common.{◌%◌, ◌∙◌, arith}
use Rattle.std.proofs.Math.Path.{ap₂}
use Rattle.rules.specs.Cells.{most_ports}
use Rattle.words.specs.Words.{length-cells_of}
use Rattle.table.specs.Reading.{passed_none, passed_inside, passed_next, passed_more, passed_all}
use Rattle.table.specs.Reading.{bumped, counted_keeps, counted_le, readings-none, readings_more, readings_all}
use Rattle.table.proofs.read.Goals as goal

pub loop-k-init : goal.loop-k-init
loop-k-init c = passed_none c.records_with-k-items.ensures c.into_iter-k-iterator.ensures.into_iter_gives (record { are = readings-none _ })

pub bump-requires : goal.bump-requires
bump-requires c =
    let t = c.in-Some.ensures.steps in
    let p = passed_next c.loop-k.invariant counted_keeps t in
    omega (arith, counted_le p (c.cell_at.result.output.0 % most_ports), passed_inside c.loop-k.invariant t)

pub loop-k-preserved : goal.loop-k-preserved
loop-k-preserved c =
    let t = c.in-Some.ensures.steps in
    let p = passed_next c.loop-k.invariant counted_keeps t in
    passed_more c.loop-k.invariant t (record { are = c.bump.ensures ∙ ap₂ bumped p.are c.cell_at.ensures ∙ readings_more _ _ })

pub returns : goal.returns
returns c =
    let e = length-cells_of c.args.table.now in
    rw (← e) at (passed_all c.loop-k.invariant counted_keeps c.in-None.ensures.steps).are ∙ readings_all _
