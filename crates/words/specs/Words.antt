-- The table as flat words and as a list of records: where fields, records and words lie. That each is known by the other, and what a store
-- makes of them, stands in proofs/Words.antt.
-- Assumes nothing.
use Prim.Native.Nat.{ℕ, zero, suc, ◌+◌, ◌*◌, ◌/◌, ◌%◌, ◌<◌, ◌≤◌}
use Rattle.std.specs.Prelude.{◌≡◌, refl, Bool, true, false, eqb, get_or}
use Rattle.std.proofs.Math.Path.{sym, ap}
use Rattle.std.proofs.Common.{◌∙◌, arith, add-zero, length-set, drop_at, get_or-set_same}
use Rattle.std.proofs.Math.Bool.{So}
use mathlib.Core.List.{List, ◌++◌}
use Rattle.std.proofs.Math.ListN.{length, set, drop, length-append, length-drop}
use Rattle.std.proofs.lemmas.List.{get_or-replicate}
use Rattle.std.proofs.Math.Seq.{ext_get_or, get_or-set_other, length-sets}
use Rattle.std.proofs.lemmas.List.Edits.{sets}
use borrow.Author.Tests.{eqb-true, eqb-false, eq-eqb}
use Rattle.laws.specs.Lists.{length-tabulate, get_or-tabulate, length-blocks, get_or-blocks}
use Rattle.rules.specs.declared.Cell.{Cell}
use Rattle.rules.specs.Cells.{free, nth, width, records, is_whole, cell_at, cells_of, fields, words_of}

-- A cell is known by its fields. This and `field_at` are the laws that name them; another field changes these two.
pub cell_ext : (c d : Cell) → ((r : ℕ) → r < width → get_or (fields c) r 0 ≡ get_or (fields d) r 0) → c ≡ d
cell_ext c d h = λ i.
    record {
      place = h 0 (omega arith) i;
      input = record { 0 = h 1 (omega arith) i };
      output = record { 0 = h 2 (omega arith) i };
      entered = record { 0 = h 3 (omega arith) i };
      tag = h 4 (omega arith) i;
    }

-- word r of record k is its field r
pub field_at : (ws : List ℕ) (k r : ℕ) → r < width → get_or (fields (cell_at ws k)) r 0 ≡ get_or ws (k * width + r) 0
field_at ws k zero l = rw add-zero
field_at ws k (suc zero) l = refl
field_at ws k (suc (suc zero)) l = refl
field_at ws k (suc (suc (suc zero))) l = refl
field_at ws k (suc (suc (suc (suc zero)))) l = refl
field_at ws k (suc (suc (suc (suc (suc r))))) l = absurd (omega arith)

-- every field of a free record is 0
pub free-field : (r : ℕ) → r < width → ◌≡◌ {A = ℕ} (get_or (fields free) r 0) 0
free-field r l = get_or-replicate width r 0 0 l

pub length-cells_of : (ws : List ℕ) → length (cells_of ws) ≡ records ws
unfolding cells_of
length-cells_of ws = length-tabulate (cell_at ws) (records ws)

pub nth-cells_of : (ws : List ℕ) (k : ℕ) → k < records ws → nth (cells_of ws) k ≡ cell_at ws k
unfolding cells_of
nth-cells_of ws k l = get_or-tabulate (cell_at ws) (records ws) free k l

pub length-words_of : (cs : List Cell) → length (words_of cs) ≡ length cs * width
unfolding words_of
length-words_of cs = length-blocks (λ k. fields (nth cs k)) width (λ k. refl) (length cs)

pub whole_words_of : (cs : List Cell) → So (is_whole (words_of cs))
unfolding is_whole
whole_words_of cs = eq-eqb (length (words_of cs) % width) 0 (omega (arith, length-words_of cs))

pub records-words_of : (cs : List Cell) → records (words_of cs) ≡ length cs
unfolding records
records-words_of cs = omega (arith, length-words_of cs)

-- field r of record k
pub words_of-at : (cs : List Cell) (k r : ℕ) → k < length cs → r < width → get_or (words_of cs) (k * width + r) 0 ≡ get_or (fields (nth cs k)) r 0
unfolding words_of
words_of-at cs k r l m = get_or-blocks (λ k. fields (nth cs k)) width (λ k. refl) (length cs) k r 0 l m

-- words as many are records as many
pub same-records : (ws vs : List ℕ) → length ws ≡ length vs → records ws ≡ records vs
unfolding records
same-records ws vs e = ap (λ (n : ℕ). n / width) e

-- so many records are so many words
pub in_words : (ws : List ℕ) {n : ℕ} → n ≤ records ws → n * width ≤ length ws
unfolding records
in_words ws l = omega arith

-- whole words are known by their records
pub word_known : (ws vs : List ℕ) (k r : ℕ) → r < width → cell_at ws k ≡ cell_at vs k → get_or ws (k * width + r) 0 ≡ get_or vs (k * width + r) 0
word_known ws vs k r l e = sym (field_at ws k r l) ∙ ap (λ (c : Cell). get_or (fields c) r 0) e ∙ field_at vs k r l

pub words_known : (ws vs : List ℕ) → So (is_whole ws) → length ws ≡ length vs → cells_of ws ≡ cells_of vs → ws ≡ vs
unfolding is_whole records
words_known ws vs w e h =
    ext_get_or 0 ws vs e
    (λ i l.
    let q : i / width * width + i % width ≡ i = omega arith in
    let m : i / width < length ws / width = omega (arith, eqb-true (length ws % width) 0 w) in
    let n : i / width < length vs / width = omega arith in
    let k : cell_at ws (i / width) ≡ cell_at vs (i / width) = sym (nth-cells_of ws _ m) ∙ ap (λ (cs : List Cell). nth cs (i / width)) h ∙ nth-cells_of vs _ n in
    rw q at (word_known ws vs (i / width) (i % width) (omega arith) k))

-- the words with c as record k
abbrev pub store : List ℕ → ℕ → Cell → List ℕ
store ws k c = sets ws (k * width) (fields c)

pub length-store : (ws : List ℕ) (k : ℕ) (c : Cell) → length (store ws k c) ≡ length ws
length-store ws k c = length-sets ws (k * width) (fields c)

-- Words vs, of which record k alone differs from ws and is c. A store of its fields is one way to that, and a store of its place another.
module _ (ws vs : List ℕ) (k : ℕ) (h : k < records ws) (c : Cell) (e : length vs ≡ length ws) (here : cell_at vs k ≡ c)
    (there : (j : ℕ) → (j ≡ k → ⊥) → cell_at vs j ≡ cell_at ws j) where
  pub cells_of-changed : cells_of vs ≡ set (cells_of ws) k c
  cells_of-changed =
      ext_get_or free (cells_of vs) (set (cells_of ws) k c) (length-cells_of vs ∙ same-records vs ws e ∙ sym (length-set (cells_of ws) k c ∙ length-cells_of ws))
      (λ j l.
      let m : j < records ws = rw (length-cells_of vs, same-records vs ws e) at l in
      nth-cells_of vs j (rw (same-records vs ws e) m) ∙ go j m (eqb j k) refl)
    where
      go : (j : ℕ) → j < records ws → (b : Bool) → eqb j k ≡ b → cell_at vs j ≡ nth (set (cells_of ws) k c) j
      go j m true q = let p : j ≡ k = eqb-true j k q in rw p (here ∙ sym (get_or-set_same (cells_of ws) k c free (rw (length-cells_of ws) h)))
      go j m false q = there j (eqb-false j k q) ∙ sym (get_or-set_other (cells_of ws) k j c free (eqb-false j k q) ∙ nth-cells_of ws j m)

-- The words with other records --------------------------------------------------------------------

-- the words ws with the records cs; what stands behind the last whole record stays
unfoldable pub with_records : List ℕ → List Cell → List ℕ
with_records ws cs = words_of cs ++ drop (length cs * width) ws

-- the words ws with their records as f changes them
abbrev pub changed : (List Cell → List Cell) → List ℕ → List ℕ
changed f ws = with_records ws (f (cells_of ws))

module _ (ws : List ℕ) (cs : List Cell) (e : length cs ≡ records ws) where
  pub length_with : length (with_records ws cs) ≡ length ws
  unfolding with_records records
  length_with = length-append (words_of cs) _ ∙ omega (arith, length-words_of cs, length-drop (length cs * width) ws, e)

  -- other records again
  pub with_again : (ds : List Cell) → length ds ≡ length cs → with_records (with_records ws cs) ds ≡ with_records ws ds
  unfolding with_records
  with_again ds q =
      ap (λ (l : List ℕ). words_of ds ++ l)
      (drop_at (words_of cs) (drop (length cs * width) ws) (length ds * width) (omega (arith, length-words_of cs, q))
      ∙ ap (λ (n : ℕ). drop (n * width) ws) (sym q))
