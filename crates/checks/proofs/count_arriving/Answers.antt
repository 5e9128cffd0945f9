-- Each input is counted if a cell arrives at it.
use Rattle.std.proofs.Common.{sym, ap, arith, eq-eqb, ne_eqb, not}
use Rattle.laws.specs.Tests.{deny}
use Rattle.laws.specs.Count.{count_zero, count_yes, count_no, count_le}
use Rattle.rules.specs.Answers.{arrives, first_word}
use Rattle.checks.proofs.count_arriving.Goals as goal
use Rattle.checks.proofs.count_arriving.Goals.{then-arrivals-i-ne0, else-arrivals-i-ne0}

pub loop-i-init : goal.loop-i-init
loop-i-init c = sym (count_zero _)

pub overflow_add-found : goal.overflow_add-found
overflow_add-found c = record { fits = omega (arith, c.loop-i.invariant, count_le (arrives c.args.arrivals.now) c.loop-i.i) }

pub loop-i-preserved : goal.loop-i-preserved
unfolding arrives first_word
loop-i-preserved c =
    let a = c.args.arrivals.now in
    let k = c.loop-i.i in
    let n = c.loop-i.invariant in
    elim c.if-arrivals-i-ne0.branch [
      | then-arrivals-i-ne0 w ↦ omega (arith, w.found-is, n, count_yes (arrives a) k (deny _ (ne_eqb _ _ w.if-arrivals-i-ne0.true)))
      | else-arrivals-i-ne0 w ↦ omega (arith, w.found-is, n, count_no (arrives a) k (ap not (eq-eqb _ _ w.if-arrivals-i-ne0.false)))
    ]
