-- Each output that is visited is one that is wanted and not taken; where it can be served, its reading is set beside the lowest.
use Rattle.std.proofs.Common.{◌≡◌, refl, sym, ◌∙◌}
use Rattle.laws.specs.SetWalk.{walk_none}
use Rattle.ports.specs.Ports.{except_ports}
use Rattle.ports.specs.PortLaws.{excepted, walk_visit, walk_done}
use Rattle.rules.specs.Cells.{reading_for}
use Rattle.queues.specs.Layout.{wanted}
use Rattle.matching.specs.Rounds.{lowering_none, lowering_skip, lowering_visit, all_wanted}
use Rattle.matching.proofs.LinedTable.lowest_readings.Goals as goal

pub loop-port-init : goal.loop-port-init
loop-port-init c =
    let e : c.into_iter-port-iterator.result.left.mask ≡ except_ports (wanted c.args.self.queues.now) c.args.taken.outputs.mask = cc in
    rw e (walk_none (lowering_none c.none-lowest.ensures.0))

pub loop-port-preserved-then-is_servable : goal.loop-port-preserved-then-is_servable
unfolding reading_for
loop-port-preserved-then-is_servable c =
    rw (c.lowered-lowest.ensures, c.from.ensures)
    (walk_visit (c.in-Some.ensures {u = tt}).steps c.loop-port.invariant
    (λ u h. lowering_visit h _ (sym c.is_servable.ensures ∙ c.if-is_servable.true) _ refl))

pub loop-port-preserved : goal.loop-port-preserved
loop-port-preserved c =
    walk_visit (c.in-Some.ensures {u = tt}).steps c.loop-port.invariant
    (λ u h. lowering_skip h _ (sym c.is_servable.ensures ∙ c.if-is_servable.false))

pub returns : goal.returns
returns c = all_wanted c.args.self.lined_up (excepted refl) (walk_done (c.in-None.ensures {u = tt}).steps c.loop-port.invariant)
