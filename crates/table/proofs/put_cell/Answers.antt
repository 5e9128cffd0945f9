-- Record k lies within the words; the stores of its fields are the `store` of the table's words.
use Rattle.std.proofs.Math.Numerals.{towards_suc}
use Rattle.words.proofs.Words.{store_with}
use Rattle.table.proofs.put_cell.Goals as goal

pub returns : goal.returns
returns c = simp towards_suc (store_with _ _ c.requires c.args.c)
