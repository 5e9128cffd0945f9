-- What is listed is listed of the numbers below x.
use Rattle.std.proofs.Common.{◌≡◌, length}
use Rattle.sift.specs.Lists.{Lists}
use Rattle.sift.proofs.numbers.Numbers.list_from.Given as goal

abbrev pub invariant-loop-x : goal.invariant-loop-x
invariant-loop-x g l = record {
  long : length l.self.list ≡ g.row.N;
  lists : Lists (goal.F-post g l.stays) l.from l.x l.initial.self.list l.initial.self.count l.self.list l.count;
}
