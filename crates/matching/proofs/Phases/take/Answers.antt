-- Each part is what the call for it says, of the cell that was read.
use Rattle.matching.specs.Ready.{taken_stale, taken_queues}
use Rattle.matching.proofs.Phases.take.Goals as goal

pub renew-requires : goal.renew-requires
renew-requires c = taken_stale c.requires c.cell_at.ensures c.set_place.ensures

pub returns-clause-takes : goal.returns-clause-takes
returns-clause-takes c =
    let e = c.cell_at.ensures in
    record {
      table = c.set_place.ensures;
      queues = taken_queues c.requires e c.set_place.ensures c.renew.ensures;
      inputs = rw (← e) c.with-picked.ensures.inputs;
      outputs = rw (← e) c.with-picked.ensures.outputs;
      served = cc;
    }
