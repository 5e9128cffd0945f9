-- Four words copied over the entry are the four set one after the other.
use Rattle.std.specs.Prelude.{◌≡◌, ℕ, ◌+◌, ◌≤◌, List, length, Option, Some, None}
use Rattle.std.proofs.Common.{sym, ◌∙◌, arith}
use Rattle.std.proofs.Math.Seq.{paste}
use Rattle.std.proofs.lemmas.List.Edits.{sets, sets-eq}
use Rattle.std.proofs.lemmas.Slice.{put_mid-paste}
use Rattle.rules.specs.declared.Cell.{Cell}
use Rattle.rules.specs.Answers.{exhaled_width}
use Rattle.buffers.specs.Exhale.{entry_of}
use Rattle.buffers.proofs.put_entry.Goals as goal

pasted : (l : List ℕ) (at : ℕ) (x : Option Cell) → at + exhaled_width ≤ length l → paste l at (entry_of x) exhaled_width ≡ sets l at (entry_of x)
pasted l at (Some c) h = sym (sets-eq (entry_of (Some c)) l at h)
pasted l at None h = sym (sets-eq (entry_of None) l at h)

pub returns : goal.returns
returns c =
    put_mid-paste _ _ _ _ c.entry_of.result exhaled_width c.copy_from_slice.ensures.after (omega arith) (omega arith)
    ∙ rw c.entry_of.ensures (pasted _ _ c.args.emitted c.requires)
