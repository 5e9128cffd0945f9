-- Blocks of free records, which the check of a table passes over: all their words are 0, so their or is.
-- Assumes nothing.
use Rattle.std.specs.Prelude.{ℕ, ◌+◌, ◌-◌, ◌*◌, ◌≤◌, ◌<◌, ◌≡◌, not, List, eqb, length, get_or, take, drop}
use Rattle.std.proofs.Common.{sym, ap, ◌∙◌, arith, length-drop, get_or-take, get_or-drop, length-take-le, eqb-true}
use Rattle.std.specs.Int.Bits.{bit_and, bit_or, and_zero_l}
use Rattle.std.specs.List.{fold}
use Rattle.laws.specs.Bits.{fold_none}
use Rattle.laws.specs.Tests.{No, to_so}
use Rattle.laws.specs.Sifted.{Sifted, Block, past, blocks_between, blocks-behind}
use Rattle.rules.specs.declared.Cell.{Cell}
use Rattle.rules.specs.Cells.{free, nth, width, records, cell_at, cells_of}
use Rattle.words.specs.Words.{cell_ext, field_at, free-field, nth-cells_of, in_words}
use Rattle.sift.specs.Stretch.{block, BlockLacks}
use Rattle.sift.specs.declared.stretch.Stretch.{Stretch}
use Rattle.sift.specs.Stretches.{blocks_of}

-- record x of the stretch that begins at record k is free
abbrev pub Free : List ℕ → ℕ → ℕ → Type 0
Free ws k x = nth (cells_of ws) (k + x) ≡ free

-- and so is each record of its block b
abbrev pub BlockFree : List ℕ → ℕ → ℕ → Type 0
BlockFree ws k = Block block (Free ws k)

-- whose places lack all bits
pub free_lacks : (ws : List ℕ) (k bits b : ℕ) → BlockFree ws k b → BlockLacks ws k bits b
free_lacks ws k bits b h j l = ap (λ (c : Cell). bit_and c.place bits) (h j l) ∙ and_zero_l bits

-- the words of block b of a stretch lie within the table
pub block_inside : (s : Stretch) (b : ℕ) → b < blocks_of s → s.start + b * block + block ≤ records s.table.now
block_inside s b l = omega (arith, s.is_stretch)

pub block_in_words : (s : Stretch) (b : ℕ) → b < blocks_of s → (s.start + b * block) * width + block * width ≤ length s.table.now
block_in_words s b l = omega (arith, in_words s.table.now (block_inside s b l))

-- by the words of the block that begins at record k, read as a part of the table
abbrev pub block_part : List ℕ → ℕ → List ℕ
block_part ws k = take (k * width + block * width - k * width) (drop (k * width) ws)

module _ (ws : List ℕ) (k : ℕ) (l : k + block ≤ records ws) (none : fold bit_or 0 (block_part ws k) ≡ 0) where
  long : length (block_part ws k) ≡ block * width
  long =
      length-take-le (k * width + block * width - k * width) (drop (k * width) ws) (rw (length-drop (k * width) ws) (omega (arith, in_words ws l)))
      ∙ omega arith

  zero_word : (i : ℕ) → i < block * width → ◌≡◌ {A = ℕ} (get_or ws (k * width + i) 0) 0
  zero_word i m =
      sym (get_or-take (k * width + block * width - k * width) (drop (k * width) ws) i 0 (omega arith) ∙ get_or-drop (k * width) ws i 0)
      ∙ (fold_none (block_part ws k) 0 none).1 i (rw long m)

  pub zeros-free : (j : ℕ) → j < block → Free ws k j
  zeros-free j h = nth-cells_of ws (k + j) (omega arith) ∙ cell_ext (cell_at ws (k + j)) free (λ r b. field_at ws (k + j) r b ∙ word r b ∙ sym (free-field r b))
    where
      word : (r : ℕ) → r < width → ◌≡◌ {A = ℕ} (get_or ws ((k + j) * width + r) 0) 0
      word r b = let e : k * width + (j * width + r) ≡ (k + j) * width + r = omega arith in rw e at (zero_word (j * width + r) (omega arith))

-- block b of the stretch begins at record k + b * block
pub block-free : (ws : List ℕ) (k b r : ℕ) → (r ≡ 0 → (j : ℕ) → j < block → Free ws (k + b * block) j) → No (not (eqb r 0)) → BlockFree ws k b
block-free ws k b r h q j l =
    let e : k + b * block + j ≡ k + (b * block + j) = omega arith in
    rw e at (h (eqb-true r 0 (to_so (eqb r 0) q)) j l)

-- the records between two touched blocks, and those behind the last one
module _ (ws : List ℕ) (k : ℕ) {blocks : List ℕ} {m n : ℕ} (d : Sifted (BlockFree ws k) blocks m n) where
  from_start : (x : ℕ) → k ≤ x → Free ws k (x - k) → nth (cells_of ws) x ≡ free
  from_start x l h = let e : k + (x - k) ≡ x = omega arith in rw e at h

  pub free_between : (j : ℕ) → j < m → (x : ℕ) → k + past blocks j * block ≤ x → x < k + get_or blocks j 0 * block → nth (cells_of ws) x ≡ free
  free_between j l x a b = from_start x (omega arith) (blocks_between block (omega arith) (Free ws k) d j l (x - k) (omega arith) (omega arith))

  pub free-behind : (x : ℕ) → k + past blocks m * block ≤ x → x < k + n * block → nth (cells_of ws) x ≡ free
  free-behind x a b = from_start x (omega arith) (blocks-behind block (omega arith) (Free ws k) d (x - k) (omega arith) (omega arith))
