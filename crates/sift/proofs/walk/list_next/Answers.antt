-- A stretch that lists none is passed; behind the last record an empty one lists none.
use Rattle.std.proofs.Common.{◌≡◌, ◌-◌, ◌∙◌, refl, arith}
use Rattle.rules.specs.Cells.{records}
use Rattle.sift.specs.Stretch.{listed_none, listed_bare}
use Rattle.sift.specs.Walk.{Passed}
use Rattle.sift.proofs.Passing.{passed_on}
use Rattle.sift.proofs.walk.list_next.Goals as goal

pub loop-stretch-preserved : goal.loop-stretch-preserved
loop-stretch-preserved c =
    let i = c.loop-stretch.invariant in
    let t = c.in-Some.ensures.steps in
    let on = c.next.new.self.next in
    let words = t.words ∙ i.rest.words in
    let listed = rw (words, t.start) at c.list_with.ensures in
    let here : Passed c.args.table.now c.args.bits c.loop-stretch.stretch-iterator.next on = record {
      forth = omega (arith, t.goes.next, t.start, c.in-Some.stretch.is_stretch.forth);
      bare = λ x a b. listed_bare listed c.if-listed-ne0.false x a (omega (arith, t.goes.next));
    } in
    record {
      rest = record { words = t.goes.words ∙ i.rest.words; next = refl };
      passed = passed_on i.passed here;
      none = c.if-listed-ne0.false;
    }

pub returns : goal.returns
unfolding records
returns c =
    let i = c.loop-stretch.invariant in
    let n = records c.args.table.now in
    let e : c.loop-stretch.stretch-iterator.next ≡ n = rw i.rest.words at c.in-None.ensures.steps in
    let none : n - n ≡ 0 = omega arith in
    let passed = rw e at i.passed in
    record {
      stretch = record { forth = omega arith; inside = omega arith; short = omega arith };
      listed = rw (none, i.none) (listed_none _ _ _ _);
      forth = passed.forth;
      between = passed.bare;
      last = λ z. refl;
    }
