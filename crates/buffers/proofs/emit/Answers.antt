-- Where the output finds no cell, an entry of zeros.
use Rattle.std.proofs.Common.{sym}
use Rattle.buffers.specs.Exhale.{emits_nothing}
use Rattle.buffers.proofs.emit.Goals as goal

pub returns-in_default : goal.returns-in_default
returns-in_default c = emits_nothing (sym c.in_default.ensures) (rw c.from-at.ensures at c.put_entry.ensures)
