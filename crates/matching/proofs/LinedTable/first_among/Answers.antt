-- Each output that is visited is one of the set; what it adds is the first cell for it.
use Rattle.std.proofs.Common.{◌≡◌}
use Rattle.laws.specs.SetWalk.{walk_none, first-nobody}
use Rattle.ports.specs.PortLaws.{walk_visit, walk_done}
use Rattle.rules.specs.Cells.{cells_of}
use Rattle.words.specs.Words.{length-cells_of}
use Rattle.matching.specs.Rounds.{walk_below, first_for_below, visit_output, all_outputs}
use Rattle.matching.proofs.LinedTable.first_among.Goals as goal

pub loop-o-init : goal.loop-o-init
loop-o-init c =
    let e : c.into_iter-o-iterator.result.left.mask ≡ c.args.outputs.mask = cc in
    rw e (walk_none first-nobody)

pub older_finding-found-requires-clause-a_below : goal.older_finding-found-requires-clause-a_below
older_finding-found-requires-clause-a_below c =
    rw (length-cells_of c.args.self.table.now) at (walk_below _ _ (cells_of c.args.self.table.now) c.loop-o.invariant.holds)

pub older_finding-found-requires-clause-b_below : goal.older_finding-found-requires-clause-b_below
older_finding-found-requires-clause-b_below c =
    rw (c.first_for.ensures, ← length-cells_of c.args.self.table.now) (first_for_below _ _ (cells_of c.args.self.table.now))

pub loop-o-preserved : goal.loop-o-preserved
loop-o-preserved c =
    let v = (c.in-Some.ensures {u = tt}).steps in
    let w = c.loop-o.invariant in
    rw (c.older_finding-found.ensures, c.first_for.ensures)
    (walk_visit v w (λ s f. visit_output _ (cells_of c.args.self.table.now) _ _ (w.part _ v.lowest.inside) f))

pub returns : goal.returns
returns c = all_outputs _ _ _ (walk_done (c.in-None.ensures {u = tt}).steps c.loop-o.invariant)
