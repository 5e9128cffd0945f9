-- The four parts of a slot, one after the other, leave what the rules' slot leaves.
use Rattle.switch.specs.Calls.{entered_orderly, runs}
use Rattle.switch.proofs.run.Goals as goal

pub read-r-requires : goal.read-r-requires
read-r-requires c = (entered_orderly c.requires _ c.inhale.ensures).few

pub transfers-requires-clause-orderly : goal.transfers-requires-clause-orderly
transfers-requires-clause-orderly c = entered_orderly c.requires _ c.inhale.ensures

pub returns-clause-lists : goal.returns-clause-lists
returns-clause-lists c =
    runs c.requires _ _ _ _ _ _ c.inhale.ensures c.read-r.ensures
    c.transfers.ensures.table_after c.transfers.ensures.matches_after c.exhale.ensures.table_after c.exhale.ensures.list_after
