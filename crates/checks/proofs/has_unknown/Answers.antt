-- The code searches the range of the inputs by the rules' test.
use Rattle.std.specs.Prelude.{ℕ, Bool, ltb}
use Rattle.std.proofs.Common.{rules, tests, arith, refl, ◌∙◌}
use Rattle.std.proofs.lemmas.Iterator.{YieldsList-from_range}
use Rattle.std.proofs.lemmas.Iterator.Search.{any_from_yields_List}
use Rattle.rules.specs.Answers.{first_word}
use Rattle.checks.proofs.Ranges.{any_range}
use Rattle.checks.proofs.has_unknown.Goals as goal

pub returns : goal.returns
unfolding first_word
returns c =
    let n = c.args.ports in
    let above : ℕ → Bool = λ i. ltb n (first_word c.args.arrivals.now i) in
    any_from_yields_List above _ _ c.any.result c.any.ensures.ran (YieldsList-from_range 0 n n refl (omega arith)) (λ x b q k. search (rules, tests))
    ∙ any_range above n
