-- Where there is a cell for the outputs that are kept, the oldest is the first candidate; otherwise it is that for those with the lowest reading.
use Rattle.std.proofs.Common.{refl, sym, ◌∙◌}
use Rattle.ports.specs.PortLaws.{excepted, except_out}
use Rattle.matching.specs.Rounds.{kept_left, kept_first, lows_first}
use Rattle.matching.proofs.LinedTable.first_candidate.Goals as goal

pub returns-in-Some-clause-first : goal.returns-in-Some-clause-first
returns-in-Some-clause-first c =
    let e = excepted c.except-kept.ensures in
    kept_first (kept_left e c.requires) (except_out e) _ (sym c.in-Some.is ∙ c.first_among.ensures) refl

pub returns-in-Some-clause-kept_next : goal.returns-in-Some-clause-kept_next
returns-in-Some-clause-kept_next c = kept_left (excepted c.except-kept.ensures) c.requires

pub returns-in_err-record-clause-first : goal.returns-in_err-record-clause-first
returns-in_err-record-clause-first c =
    rw c.from_residual.ensures
    (sym (rw c.in_err-record.is at c.branch-record.ensures) ∙ c.first_among-2.ensures ∙ lows_first c.lowest_readings-next.ensures)

pub returns-clause-first : goal.returns-clause-first
returns-clause-first c =
    sym (rw c.in_ok-record.is at c.branch-record.ensures) ∙ c.first_among-2.ensures ∙ lows_first c.lowest_readings-next.ensures
