-- The error that is handed on tells of too many records.
use Rattle.records.specs.Layout.{told}
use Rattle.records.proofs.lowest_free_of.Goals as goal

pub returns-in_err-first_records : goal.returns-in_err-first_records
returns-in_err-first_records c = told _ _ _ c.from_residual.ensures.0 c.in_err-first_records.ensures
