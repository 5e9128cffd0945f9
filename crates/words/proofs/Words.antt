-- The words and the records of a table are known by each other, and words with other records are those records and the tail as it was.
use Prim.Native.Nat.{ℕ, zero, suc, ◌+◌, ◌-◌, ◌*◌, ◌/◌, ◌%◌, ◌<◌, ◌≤◌}
use Rattle.std.specs.Prelude.{◌≡◌, refl, ◌⊎◌, ltb, get_or, replicate}
use Rattle.std.proofs.Math.Path.{sym, ap}
use Rattle.std.proofs.Common.{◌∙◌, inl, inr, ⊎_elim, arith, length-set, get_or-append-add, get_or-drop, get_or-set_same}
use Rattle.std.proofs.Math.Bool.{So}
use mathlib.Core.List.{List}
use Rattle.std.proofs.Math.ListN.{length, set, drop, get_or-append, get_or-eq_default}
use Rattle.std.proofs.lemmas.List.{length-replicate, get_or-replicate}
use Rattle.std.proofs.Math.Seq.{ext_get_or, get_or-set_other}
use borrow.Author.Tests.{eqb-true, eq-eqb, ltb-true, ltb-false}
use Rattle.laws.specs.Tests.{passes}
use Rattle.laws.specs.Lists.{sets_inside, sets-outside}
use Rattle.rules.specs.declared.Cell.{Cell}
use Rattle.rules.specs.Cells.{free, nth, placed, width, records, is_whole, cell_at, cells_of, fields, words_of}
use Rattle.words.specs.Words.{cell_ext, field_at, free-field, length-cells_of, nth-cells_of, length-words_of, whole_words_of, records-words_of, words_of-at, same-records, word_known, words_known, store, length-store, cells_of-changed, with_records, length_with, with_again}

-- so records with the same words are the same cell
cell_at_ext : (ws vs : List ℕ) (j k : ℕ) → ((r : ℕ) → r < width → get_or ws (j * width + r) 0 ≡ get_or vs (k * width + r) 0) → cell_at ws j ≡ cell_at vs k
cell_at_ext ws vs j k h = cell_ext (cell_at ws j) (cell_at vs k) (λ r l. field_at ws j r l ∙ h r l ∙ sym (field_at vs k r l))

cell_at-words_of : (cs : List Cell) (k : ℕ) → k < length cs → cell_at (words_of cs) k ≡ nth cs k
cell_at-words_of cs k l = cell_ext (cell_at (words_of cs) k) (nth cs k) (λ r m. field_at (words_of cs) k r m ∙ words_of-at cs k r l m)

pub cells_of-words_of : (cs : List Cell) → cells_of (words_of cs) ≡ cs
cells_of-words_of cs =
    ext_get_or free (cells_of (words_of cs)) cs (length-cells_of (words_of cs) ∙ records-words_of cs)
    (λ k h.
    let l : k < length cs = omega (arith, length-cells_of (words_of cs), records-words_of cs) in
    nth-cells_of (words_of cs) k (omega (arith, records-words_of cs)) ∙ cell_at-words_of cs k l)

pub words_of-cells_of : (ws : List ℕ) → So (is_whole ws) → words_of (cells_of ws) ≡ ws
unfolding is_whole records
words_of-cells_of ws w =
    words_known (words_of (cells_of ws)) ws (whole_words_of (cells_of ws))
    (omega (arith, length-words_of (cells_of ws), length-cells_of ws, eqb-true (length ws % width) 0 w))
    (cells_of-words_of (cells_of ws))

module _ (ws : List ℕ) (cs : List Cell) (e : length cs ≡ records ws) where
  records_with : records (with_records ws cs) ≡ records ws
  records_with = same-records (with_records ws cs) ws (length_with ws cs e)

  pub cells_of_with : cells_of (with_records ws cs) ≡ cs
  unfolding with_records
  cells_of_with =
      ext_get_or free (cells_of (with_records ws cs)) cs (length-cells_of (with_records ws cs) ∙ records_with ∙ sym e)
      (λ k h.
      let m : k < records (with_records ws cs) = rw (length-cells_of (with_records ws cs)) at h in
      let l : k < length cs = omega (arith, records_with, e) in
      nth-cells_of (with_records ws cs) k m
      ∙ cell_at_ext (with_records ws cs) (words_of cs) k k (λ r b. get_or-append (words_of cs) _ 0 (k * width + r) (omega (arith, length-words_of cs)))
      ∙ cell_at-words_of cs k l)

  -- of whole words nothing stands behind
  pub with_whole : So (is_whole ws) → with_records ws cs ≡ words_of cs
  unfolding is_whole records
  with_whole w =
      words_known (with_records ws cs) (words_of cs)
      (eq-eqb (length (with_records ws cs) % width) 0 (omega (arith, length_with ws cs e, eqb-true (length ws % width) 0 w)))
      (length_with ws cs e ∙ omega (arith, length-words_of cs, e, eqb-true (length ws % width) 0 w))
      (cells_of_with ∙ sym (cells_of-words_of cs))

-- words vs that are ws with the records cs, as many as ws has: how long they are, their records, and what becomes of them with others
module _ (ws : List ℕ) {vs : List ℕ} (cs : List Cell) (e : vs ≡ with_records ws cs) (l : length cs ≡ length (cells_of ws)) where
  pub with_long : length vs ≡ length ws
  with_long = ap length e ∙ length_with ws cs (l ∙ length-cells_of ws)

  pub with_cells : cells_of vs ≡ cs
  with_cells = ap cells_of e ∙ cells_of_with ws cs (l ∙ length-cells_of ws)

  pub with_then : {us : List ℕ} (ds : List Cell) → us ≡ with_records vs ds → length ds ≡ length cs → us ≡ with_records ws ds
  with_then ds q m = q ∙ ap (λ (x : List ℕ). with_records x ds) e ∙ with_again ws cs (l ∙ length-cells_of ws) ds m

-- words as many, the same behind the last whole record, are the words with their own records
pub with_known : (ws vs : List ℕ) → length vs ≡ length ws → ((i : ℕ) → records ws * width ≤ i → get_or vs i 0 ≡ get_or ws i 0) → vs ≡ with_records ws (cells_of vs)
unfolding with_records records
with_known ws vs e h =
    ext_get_or 0 vs (with_records ws (cells_of vs)) (e ∙ sym (length_with ws (cells_of vs) many))
    (λ i l. ⊎_elim (λ b. inside i (ltb-true i _ b)) (λ b. behind i (ltb-false i _ b)) (passes (ltb i (records ws * width))))
  where
    many : length (cells_of vs) ≡ records ws
    many = length-cells_of vs ∙ same-records vs ws e

    long : length (words_of (cells_of vs)) ≡ records ws * width
    long = length-words_of (cells_of vs) ∙ ap (λ (n : ℕ). n * width) many

    inside : (i : ℕ) → i < records ws * width → get_or vs i 0 ≡ get_or (with_records ws (cells_of vs)) i 0
    inside i l =
        let q : i / width * width + i % width ≡ i = omega arith in
        let m : i / width < records vs = omega (arith, same-records vs ws e) in
        let k = sym (cell_at-words_of (cells_of vs) (i / width) (rw (length-cells_of vs) m) ∙ nth-cells_of vs (i / width) m) in
        rw q at (word_known vs (words_of (cells_of vs)) (i / width) (i % width) (omega arith) k)
        ∙ sym (get_or-append (words_of (cells_of vs)) _ 0 i (rw long l))

    behind : (i : ℕ) → records ws * width ≤ i → get_or vs i 0 ≡ get_or (with_records ws (cells_of vs)) i 0
    behind i l =
        let q : length (words_of (cells_of vs)) + (i - records ws * width) ≡ i = omega (arith, long) in
        let p : records ws * width + (i - records ws * width) ≡ i = omega arith in
        h i l ∙ sym (rw q at (get_or-append-add (words_of (cells_of vs)) (drop (length (cells_of vs) * width) ws) (i - records ws * width) 0)
        ∙ get_or-drop (length (cells_of vs) * width) ws (i - records ws * width) 0 ∙ ap (λ (n : ℕ). get_or ws n 0) (omega (arith, many, p)))

pub with_own : (ws : List ℕ) → with_records ws (cells_of ws) ≡ ws
with_own ws = sym (with_known ws ws refl (λ i l. refl))

module _ (ws : List ℕ) (k : ℕ) (h : k < records ws) where
  -- a record that is laid down
  pub store_with : (c : Cell) → store ws k c ≡ with_records ws (set (cells_of ws) k c)
  unfolding records
  store_with c =
      with_known ws (store ws k c) (length-store ws k c) (λ i l. sets-outside 0 (fields c) ws (k * width) i (inr (omega arith)))
      ∙ ap (with_records ws) (cells_of-changed ws (store ws k c) k h c (length-store ws k c) here there)
    where
      here : cell_at (store ws k c) k ≡ c
      here = cell_ext (cell_at (store ws k c) k) c (λ r l. field_at (store ws k c) k r l ∙ sets_inside 0 (fields c) ws (k * width) r (omega arith) l)

      there : (j : ℕ) → (j ≡ k → ⊥) → cell_at (store ws k c) j ≡ cell_at ws j
      there j ne = cell_at_ext (store ws k c) ws j j (λ r l. sets-outside 0 (fields c) ws (k * width) (j * width + r) (apart j r ne l))
        where
          apart : (j r : ℕ) → (j ≡ k → ⊥) → r < width → (j * width + r < k * width) ⊎ (k * width + width ≤ j * width + r)
          apart j r ne l = ⊎_elim (λ b. inl (omega (arith, ltb-true j k b))) (λ b. inr (omega (arith, ltb-false j k b))) (passes (ltb j k))

  -- another place is a store of one word, the first
  pub place_with : (p : ℕ) → set ws (k * width) p ≡ with_records ws (set (cells_of ws) k (placed p (nth (cells_of ws) k)))
  unfolding records
  place_with p =
      with_known ws vs long (λ i l. get_or-set_other ws (k * width) i p 0 (omega arith))
      ∙ ap (with_records ws) (rw (nth-cells_of ws k h) (cells_of-changed ws vs k h (placed p (cell_at ws k)) long here there))
    where
      vs : List ℕ
      vs = set ws (k * width) p

      long : length vs ≡ length ws
      long = length-set ws (k * width) p

      other : (x : ℕ) → (x ≡ k * width → ⊥) → get_or vs x 0 ≡ get_or ws x 0
      other x ne = get_or-set_other ws (k * width) x p 0 ne

      here : cell_at vs k ≡ placed p (cell_at ws k)
      here = cell_ext (cell_at vs k) (placed p (cell_at ws k)) each
        where
          each : (r : ℕ) → r < width → get_or (fields (cell_at vs k)) r 0 ≡ get_or (fields (placed p (cell_at ws k))) r 0
          each zero l = get_or-set_same ws (k * width) p 0 (omega arith)
          each (suc r) l = field_at vs k (suc r) l ∙ other (k * width + suc r) (omega arith) ∙ sym (field_at ws k (suc r) l)

      there : (j : ℕ) → (j ≡ k → ⊥) → cell_at vs j ≡ cell_at ws j
      there j ne = cell_at_ext vs ws j j (λ r l. other (j * width + r) (omega arith))

-- a table of zeros is one of free records
pub cells_of-zeros : (n k : ℕ) → nth (cells_of (replicate n 0)) k ≡ free
cells_of-zeros n k =
    ⊎_elim
    (λ l. nth-cells_of (replicate n 0) k (ltb-true k _ l) ∙ zero_cell)
    (λ l. get_or-eq_default (cells_of (replicate n 0)) free {n = k} (rw (length-cells_of (replicate n 0)) (ltb-false k _ l)))
    (passes (ltb k (records (replicate n 0))))
  where
    zero_word : (i : ℕ) → ◌≡◌ {A = ℕ} (get_or (replicate n 0) i 0) 0
    zero_word i =
        ⊎_elim
        (λ l. get_or-replicate n i 0 0 (ltb-true i n l))
        (λ l. get_or-eq_default (replicate n 0) 0 {n = i} (rw (length-replicate {A = ℕ} n 0) (ltb-false i n l)))
        (passes (ltb i n))

    zero_cell : cell_at (replicate n 0) k ≡ free
    zero_cell = cell_ext (cell_at (replicate n 0) k) free (λ r l. field_at (replicate n 0) k r l ∙ zero_word (k * width + r) ∙ sym (free-field r l))
