-- The stretch at hand is passed, and so are the records before the next one that lists any.
use Rattle.std.proofs.Common.{refl, arith, add-zero, eqb-true}
use Rattle.std.proofs.lemmas.Bool.{eqb-false, false≢true}
use Rattle.laws.specs.Tests.{denied, to_so}
use Rattle.rules.specs.Cells.{records}
use Rattle.sift.specs.Stretch.{listed_bare}
use Rattle.sift.specs.Walk.{reached}
use Rattle.sift.proofs.Passing.{passed_on, passed_last, end_passed}
use Rattle.sift.proofs.walk.Records.is_any_left.Goals as goal

pub returns : goal.returns
unfolding reached
returns c =
    let d = c.list_next-next.ensures in
    let next = c.list_next-next.result in
    let before = passed_on (end_passed c.args.self.now (omega arith)) (record { forth = d.forth; bare = d.between }) in
    record {
      words = refl;
      bits_are = refl;
      passed = rw (add-zero next.start) before;
      found = λ h. omega (arith, eqb-false _ _ (denied _ h));
      none = λ h.
          let z = eqb-true _ _ (to_so _ h) in
          passed_last (passed_on before (record { forth = d.stretch.forth; bare = λ x a b. listed_bare d.listed z x a (omega arith) })) (d.last z);
    }

-- behind the last record none is left
pub returns-then-self-2 : goal.returns-then-self-2
unfolding records
returns-then-self-2 c = record {
  words = refl;
  bits_are = refl;
  passed = record { forth = omega arith; bare = λ x a b. absurd (omega arith) };
  found = λ h. absurd (false≢true h);
  none = λ h. passed_last (end_passed c.args.self.now (omega arith)) (omega arith);
}
