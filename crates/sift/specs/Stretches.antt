-- A table's stretches: what is listed of one, and what a turn of the walk over them gives and leaves.
-- Assumes nothing.
use Rattle.std.specs.Prelude.{ℕ, ◌+◌, ◌-◌, ◌/◌, ◌<◌, min, ◌≡◌, List, Option, Some, None}
use Rattle.laws.specs.Sifted.{Sifted}
use Rattle.rules.specs.Cells.{records}
use Rattle.sift.specs.Stretch.{stretch_size, block, BlockLacks, Listed}
use Rattle.sift.specs.declared.stretch.Stretch.{Stretch}
use Rattle.sift.specs.declared.stretch.Stretches.{Stretches}

-- how many records a stretch has, and how many whole blocks
abbrev pub size_of : Stretch → ℕ
size_of s = s.end - s.start

abbrev pub blocks_of : Stretch → ℕ
blocks_of s = size_of s / block

-- the first m numbers of the list are those of its records below number n that have one of `bits`
abbrev pub ListedTo : Stretch → ℕ → ℕ → List ℕ → ℕ → Type 0
ListedTo s n bits list m = Listed s.table.now s.start n bits list m

-- the first m numbers of the list are those of blocks, and the records of the others lack `bits`
abbrev pub BlocksListed : Stretch → ℕ → List ℕ → ℕ → Type 0
BlocksListed s bits list m = Sifted (BlockLacks s.table.now s.start bits) list m (blocks_of s)

-- the stretches of these words from record k on
pub record From (ws : List ℕ) (k : ℕ) (s : Stretches) : Type 0 where
  pub words : s.table.now ≡ ws
  pub next : s.next ≡ k

-- the next stretch begins where the walk has come to, and ends a stretch's length on, or with the last record
pub record Turn (s : Stretches) (x : Stretch) (t : Stretches) : Type 0 where
  pub words : x.table.now ≡ s.table.now
  pub start : x.start ≡ s.next
  pub end : x.end ≡ min (s.next + stretch_size) (records s.table.now)
  pub before : s.next < records s.table.now
  pub goes : From s.table.now x.end t

-- it ends where no record is left
abbrev pub Walks : Stretches → Option Stretch → Stretches → Type 0
Walks s (Some x) t = Turn s x t
Walks s None t = s.next ≡ records s.table.now
