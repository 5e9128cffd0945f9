-- An empty stretch before the first record lists nothing.
use Rattle.std.proofs.Common.{refl, arith}
use Rattle.sift.specs.Stretch.{listed_none}
use Rattle.sift.specs.Walk.{reached}
use Rattle.sift.proofs.walk.Records.with_bits.Goals as goal

pub invariant_of-result : goal.invariant_of-result
invariant_of-result c = record {
  stretch = record { forth = omega arith; inside = omega arith; short = omega arith };
  are_listed = rw c.none.ensures (listed_none _ _ _ _);
  turned = omega arith;
}

pub returns : goal.returns
unfolding reached
returns c = record { words = refl; bits_are = refl; first = refl }
