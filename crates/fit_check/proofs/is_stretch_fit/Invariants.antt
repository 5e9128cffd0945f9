-- The records below the next one listed are sound and alone: those that are not listed are free, where there are no strays.
use Rattle.std.proofs.Common.{length}
use Rattle.rules.specs.Cells.{cells_of}
use Rattle.sift.specs.Stretch.{live_bits, Pass}
use Rattle.fit_check.specs.Sound.{sound_by}
use Rattle.fit_check.specs.Walk.{FitWithin}
use Rattle.fit_check.proofs.is_stretch_fit.Given as goal

abbrev pub invariant-loop-x : goal.invariant-loop-x
invariant-loop-x l =
    let s = l.stretch in
    Pass (FitWithin (sound_by l.bounds) (cells_of s.table.now) s.start s.end l.marks.sets) s.table.now s.start s.end live_bits l.x-items (length l.x-items)
    l.x-index
