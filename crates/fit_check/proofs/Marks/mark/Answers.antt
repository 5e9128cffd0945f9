-- A free cell is not marked; a live one is by its input, in the set of its slot.
use Rattle.std.proofs.Common.{rules, sym, ◌∙◌}
use Rattle.ports.specs.PortLaws.{added}
use Rattle.fit_check.specs.Marks.{free-marked, live-marked}
use Rattle.fit_check.proofs.Marks.mark.Goals as goal

pub returns-then-is_free : goal.returns-then-is_free
returns-then-is_free c = free-marked _ _ (sym c.is_free.ensures ∙ c.if-is_free.true)

pub returns : goal.returns
returns c = live-marked _ _ _ _ (search rules) (added c.with.ensures) c.contains.ensures
