-- A tag is its number, up to the field's end.
-- Assumes nothing.
use Rattle.text.specs.Parts.{tag_taken}
use Rattle.text.proofs.field.read_tag.Goals as goal

pub returns-clause-taken : goal.returns-clause-taken
returns-clause-taken c = tag_taken _ _ _ _ _ _ c.read.ensures.taken
