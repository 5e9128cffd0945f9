-- Each input that is visited is one that has a cell and is not taken; what it adds is the head of its pair.
use Rattle.std.proofs.Common.{◌≡◌, refl}
use Rattle.laws.specs.SetWalk.{walk_none, first-nobody}
use Rattle.ports.specs.Ports.{except_ports}
use Rattle.ports.specs.PortLaws.{excepted, except_out, walk_visit, walk_done}
use Rattle.rules.specs.Cells.{cells_of}
use Rattle.words.specs.Words.{length-cells_of}
use Rattle.queues.specs.Layout.{senders}
use Rattle.matching.specs.Rounds.{walk_below, visit_input, all_inputs, head_read, head_below_records}
use Rattle.matching.proofs.LinedTable.first_for.Goals as goal

pub loop-i-init : goal.loop-i-init
loop-i-init c =
    let e : c.into_iter-i-iterator.result.left.mask ≡ except_ports (senders c.args.self.queues.now c.args.output.0) c.args.inputs.mask = cc in
    rw e (walk_none first-nobody)

pub older_finding-found-requires-clause-a_below : goal.older_finding-found-requires-clause-a_below
older_finding-found-requires-clause-a_below c =
    rw (length-cells_of c.args.self.table.now) at (walk_below _ _ (cells_of c.args.self.table.now) c.loop-i.invariant.holds)

pub older_finding-found-requires-clause-b_below : goal.older_finding-found-requires-clause-b_below
older_finding-found-requires-clause-b_below c =
    head_below_records c.args.self.lined_up _ _ (c.in-Some.ensures {u = tt}).steps.lowest.small c.requires
    (length-cells_of c.args.self.table.now) _ c.head-head.ensures

pub loop-i-preserved : goal.loop-i-preserved
loop-i-preserved c =
    let v = (c.in-Some.ensures {u = tt}).steps in
    let untaken = except_out (excepted refl) _ (c.loop-i.invariant.part _ v.lowest.inside) in
    rw (c.older_finding-found.ensures, c.head-head.ensures, head_read c.args.self.lined_up _ _ v.lowest.small c.requires)
    (walk_visit v c.loop-i.invariant (λ s f. visit_input _ (cells_of c.args.self.table.now) _ _ untaken f))

-- the walk is over the inputs that have a cell and are not taken
pub returns : goal.returns
returns c =
    all_inputs c.args.self.lined_up _ _ _ c.requires (excepted refl) (walk_done (c.in-None.ensures {u = tt}).steps c.loop-i.invariant)
