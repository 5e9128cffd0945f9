-- A round that finds a record picks one more; one that finds none is the last.
use Rattle.std.proofs.Common.{refl, ◌∙◌, arith}
use Rattle.matching.specs.Rounds.{rounds_none, rounds_all, rounds_stop, rounds_take, rounds_more}
use Rattle.matching.proofs.Phases.pick.Goals as goal

pub rounds-init : goal.rounds-init
rounds-init c =
    rw c.default-lows.ensures
    (record { table = refl; rounds = rounds_none _ _ _ _ _ _ c.requires.queues c.default.ensures.0 c.default.ensures.1 (omega arith) })

pub take-requires : goal.take-requires
take-requires c =
    let e = rw (c.lined_table.ensures, c.in-Some.is) at c.first_candidate.ensures in
    rounds_take c.rounds.invariant.rounds e.first refl c.requires.orderly

pub rounds-preserved : goal.rounds-preserved
rounds-preserved c =
    let e = rw (c.lined_table.ensures, c.in-Some.is) at c.first_candidate.ensures in
    record {
      table = c.take.ensures.same_table ∙ c.rounds.invariant.table;
      rounds = rounds_more c.rounds.invariant.rounds e.first refl c.requires.orderly c.rounds-test.true e.kept_next c.take.ensures.takes;
    }

pub returns-after-rounds-clause-picked : goal.returns-after-rounds-clause-picked
returns-after-rounds-clause-picked c = rounds_all c.rounds.invariant.rounds (omega (arith, c.rounds.invariant.rounds.rounds))

pub returns-in_default-clause-picked : goal.returns-in_default-clause-picked
returns-in_default-clause-picked c =
    let e = rw (c.lined_table.ensures, c.in_default.is) at c.first_candidate.ensures in rounds_stop c.rounds.invariant.rounds e.first refl
