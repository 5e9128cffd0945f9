-- What was found is the count of the inputs below i at which a cell arrives.
use Rattle.std.proofs.Common.{◌≡◌}
use Rattle.laws.specs.Count.{count}
use Rattle.rules.specs.Answers.{arrives}
use Rattle.checks.proofs.count_arriving.Given as goal

abbrev pub invariant-loop-i : goal.invariant-loop-i
invariant-loop-i l = l.found ≡ count (arrives l.arrivals) l.i
