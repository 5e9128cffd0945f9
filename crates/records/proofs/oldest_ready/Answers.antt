-- What the scan answers of words laid out is the answer for the records.
use Rattle.std.proofs.Common.{◌∙◌, rules}
use Rattle.rules.specs.Phases.{oldest_ready}
use Rattle.records.specs.Records.{oldest_ready_of}
use Rattle.records.specs.Layout.{scanned}
use Rattle.records.proofs.oldest_ready.Goals as goal

pub returns : goal.returns
unfolding oldest_ready_of
returns c = c.scan.ensures.answer ∙ scanned (λ cs. oldest_ready cs c.args.o) _ _ (λ few. let h = c.scan.ensures.by_words few in search rules)
