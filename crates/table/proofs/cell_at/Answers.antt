-- Record k lies within the words, and its words are the cell's fields.
use Rattle.std.proofs.Common.{sym}
use Rattle.words.specs.Words.{nth-cells_of}
use Rattle.table.proofs.cell_at.Goals as goal

pub returns : goal.returns
returns c = sym (nth-cells_of _ _ c.requires)
