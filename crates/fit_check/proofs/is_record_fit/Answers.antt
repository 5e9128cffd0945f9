-- A record that is not sound settles the table; of one that is, being alone decides.
use Rattle.std.proofs.Common.{◌<◌, ◌∙◌, sym, ap, length}
use Rattle.rules.specs.Cells.{cells_of}
use Rattle.words.specs.Words.{length-cells_of}
use Rattle.fit_check.specs.Sound.{sound_by}
use Rattle.fit_check.specs.Walk.{unsound, fit_more}
use Rattle.fit_check.proofs.is_record_fit.Goals as goal

-- what was asked of the cell was asked of record k
pub returns-else-is_sound : goal.returns-else-is_sound
returns-else-is_sound c =
    let inside : c.args.k < length (cells_of c.args.table.now) = rw (length-cells_of c.args.table.now) c.requires.k_bound in
    let sound = c.is_sound.ensures ∙ ap (sound_by c.args.bounds) c.cell_at.ensures in
    rw c.if-is_sound.false (unsound _ _ _ _ _ inside (sym sound ∙ c.if-is_sound.false))

pub returns-then-is_sound : goal.returns-then-is_sound
returns-then-is_sound c =
    let inside : c.args.k < length (cells_of c.args.table.now) = rw (length-cells_of c.args.table.now) c.requires.k_bound in
    let sound = c.is_sound.ensures ∙ ap (sound_by c.args.bounds) c.cell_at.ensures in
    fit_more _ _ _ c.requires.fit_so_far inside (sym sound ∙ c.if-is_sound.true) c.is_alone_by.ensures
