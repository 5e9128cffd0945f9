-- The next record listed is given; each turn leaves fewer ahead.
use Rattle.std.proofs.Common.{ℕ, List, length, ap, arith, add-one}
use Rattle.rules.specs.Cells.{records}
use Rattle.sift.specs.Walk.{reached}
use Rattle.sift.proofs.Passing.{passed_next, next_as, next_listed, turn_less}
use Rattle.sift.proofs.walk.RecordsIterator.next.Goals as goal

pub overflow_add-k : goal.overflow_add-k
unfolding records
overflow_add-k c =
    let n = next_listed c.is_any_left.new.self (c.is_any_left.ensures.found c.if-not-is_any_left.false) in
    record { fits = omega (arith, n.inside, c.from.ensures, ap (λ (ws : List ℕ). length ws) c.is_any_left.ensures.words) }

pub returns-clause-steps : goal.returns-clause-steps
unfolding reached
returns-clause-steps c =
    let s = c.is_any_left.new.self in
    let d = c.is_any_left.ensures in
    let n = next_as d.words d.bits_are (next_listed s (d.found c.if-not-is_any_left.false)) in
    record {
      next = rw c.from.ensures (passed_next d.passed n);
      words = d.words;
      bits_are = d.bits_are;
      on = rw (add-one s.turn) (omega (arith, c.from.ensures));
    }

pub returns-clause-goes : goal.returns-clause-goes
returns-clause-goes c = let less = turn_less (returns-clause-steps c) in record { on = λ f. (tt, tt, less); keeps = tt; rests = λ f. tt }
