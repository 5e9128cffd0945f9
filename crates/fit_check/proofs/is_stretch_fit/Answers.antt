-- The records that are not listed are free, where there are no strays; so a turn begins with all those below its record sound and alone.
use Rattle.std.proofs.Common.{ℕ, ◌+◌, ◌≤◌, ◌<◌, ◌≡◌, List, true, arith, bit_and}
use Rattle.ports.specs.declared.PortSet.{PortSet}
use Rattle.rules.specs.Cells.{nth, records, cells_of}
use Rattle.sift.specs.Stretch.{live_bits, Words, Pass, Visit, pass_begins, pass_turn, pass_more, pass_ends, listed_front}
use Rattle.fit_check.specs.declared.Bounds.{Bounds}
use Rattle.fit_check.specs.Sound.{sound_by, sound_by-free, Strays}
use Rattle.fit_check.specs.Walk.{FitTo, FitWithin, fit_begins, fit_goes_on, fit_keeps, fit_told, stray_unfit}
use Rattle.fit_check.proofs.is_stretch_fit.Goals as goal

-- before turn j of the pass, where each word of the table is one of 32 bits
module _ (bounds : Bounds) {ws : List ℕ} {k end r : ℕ} {ms : List PortSet} {list : List ℕ} {m j : ℕ} (s : Strays (cells_of ws) k end r) (z : r ≡ 0)
    (words : Words ws) (p : Pass (FitWithin (sound_by bounds) (cells_of ws) k end ms) ws k end live_bits list m j) where
  -- what holds of the records below x
  abbrev Within : ℕ → Type 0
  Within = FitWithin (sound_by bounds) (cells_of ws) k end ms

  -- is kept by one that is not listed
  keeps : (x : ℕ) → x < records ws → bit_and (nth (cells_of ws) x).place live_bits ≡ 0 → Within x → Within (x + 1)
  keeps = fit_keeps _ (sound_by-free bounds) _ s z words.small ms

  turn : j < m → Visit Within ws k end list j
  turn l = pass_turn p keeps l

  ends : m ≤ j → FitTo (sound_by bounds) (cells_of ws) ms end true
  ends l = fit_told _ _ _ ((pass_ends p keeps l).below (omega arith))

pub returns-then-strays-ne0 : goal.returns-then-strays-ne0
returns-then-strays-ne0 c =
    stray_unfit _ (sound_by-free c.args.bounds) _ _ _ c.list_live-strays.ensures.strays c.args.stretch.is_stretch.inside c.if-strays-ne0.true

pub loop-x-init : goal.loop-x-init
loop-x-init c =
    pass_begins c.args.stretch.is_stretch (listed_front c.list_live-strays.ensures.listed c.as_slice-x-items.ensures) (fit_begins c.requires)

pub loop-x-preserved : goal.loop-x-preserved
loop-x-preserved c =
    let t = turn c.args.bounds c.list_live-strays.ensures.strays c.if-strays-ne0.false c.args.stretch.words c.loop-x.invariant c.loop-x-test.true in
    pass_more c.loop-x.invariant c.loop-x-test.true (fit_goes_on (omega arith) (rw c.from.ensures at (c.is_record_fit.ensures.fits c.if-not-is_record_fit.false)))

pub overflow_add-k : goal.overflow_add-k
overflow_add-k c =
    let t = turn c.args.bounds c.list_live-strays.ensures.strays c.if-strays-ne0.false c.args.stretch.words c.loop-x.invariant c.loop-x-test.true in
    record { fits = omega arith }

pub is_record_fit-requires-clause-k_bound : goal.is_record_fit-requires-clause-k_bound
is_record_fit-requires-clause-k_bound c =
    let t = turn c.args.bounds c.list_live-strays.ensures.strays c.if-strays-ne0.false c.args.stretch.words c.loop-x.invariant c.loop-x-test.true in
    rw c.from.ensures t.inside

pub is_record_fit-requires-clause-fit_so_far : goal.is_record_fit-requires-clause-fit_so_far
is_record_fit-requires-clause-fit_so_far c =
    let t = turn c.args.bounds c.list_live-strays.ensures.strays c.if-strays-ne0.false c.args.stretch.words c.loop-x.invariant c.loop-x-test.true in
    rw c.from.ensures (t.below.below (omega arith))

pub returns : goal.returns
returns c = ends c.args.bounds c.list_live-strays.ensures.strays c.if-strays-ne0.false c.args.stretch.words c.loop-x.invariant c.loop-x-test.false
