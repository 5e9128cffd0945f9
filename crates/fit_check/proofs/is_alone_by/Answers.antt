-- A new mark has no record below with the same slot and input; otherwise the records are looked at. Either way record k is marked.
use Rattle.std.proofs.Common.{sym, ◌∙◌}
use Rattle.fit_check.specs.Marks.{seen_more, new_alone}
use Rattle.fit_check.proofs.is_alone_by.Goals as goal

pub returns-then-mark : goal.returns-then-mark
returns-then-mark c =
    let s = c.requires.seen in
    let e = c.cell_at.ensures in
    record { alone = c.if-mark.true ∙ sym (new_alone _ _ s e c.mark.ensures c.if-mark.true); seen = seen_more _ _ s e c.mark.ensures }

pub returns-else-mark : goal.returns-else-mark
returns-else-mark c = record { alone = c.is_alone.ensures; seen = seen_more _ _ c.requires.seen c.cell_at.ensures c.mark.ensures }
