-- Every record below the next stretch is sound and alone, and is marked if it is live.
use Rattle.rules.specs.Cells.{cells_of}
use Rattle.sift.specs.Stretches.{From}
use Rattle.fit_check.specs.Sound.{sound_by}
use Rattle.fit_check.specs.Walk.{FitSoFar}
use Rattle.fit_check.proofs.is_fit.Given as goal

abbrev pub invariant-loop-stretch : goal.invariant-loop-stretch
invariant-loop-stretch l = record {
  rest : From l.table l.stretch-iterator.next l.stretch-iterator;
  fits : FitSoFar (sound_by l.bounds) (cells_of l.table) l.marks.sets l.stretch-iterator.next;
}
