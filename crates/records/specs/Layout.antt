-- Records laid out as words: what holds after k records, and that all words are there once all are laid.
-- A scan of words laid out answers as the scan of the records.
-- Assumes nothing.
use Rattle.std.specs.Prelude.{ℕ, ◌+◌, ◌*◌, ◌/◌, ◌%◌, ◌<◌, ◌≤◌, ◌≡◌, List, leb, length, get_or, set, take, Option, Ok, Err}
use Rattle.std.specs.Result.{IsErr}
use Rattle.std.proofs.Common.{sym, ap, ◌∙◌, ⊎_elim, arith, add-one, leb-true, leb-false, le-leb}
use Rattle.std.proofs.Common.{ext_get_or, get_or-take, get_or-set_same, get_or-set_other, length-take-le}
use Rattle.std.proofs.lemmas.Bool.{lt-leb, false≢true}
use Rattle.laws.specs.Tests.{passes}
use Rattle.laws.specs.Walk.{below_suc}
use Rattle.rules.specs.declared.Cell.{Cell}
use Rattle.rules.specs.Cells.{most_records, width, records, free, nth, fields, cell_at, cells_of, words_of}
use Rattle.words.specs.Words.{length-words_of, words_of-at, length-cells_of, nth-cells_of, field_at}
use Rattle.words.proofs.Words.{cells_of-words_of}
use Rattle.table.specs.Table.{stored, length-stored, cells_of-stored}
use Rattle.records.specs.Records.{Finding, finding_of, most_words, answered, Laid}
use Rattle.records.specs.declared.ScanError.TheVariants.{TooManyRecords}

-- the first k records of ws are those of cs
pub record LaidTo (cs : List Cell) (k : ℕ) (ws : List ℕ) : Type 0 where
  pub long : length ws ≡ most_words
  pub same : (j : ℕ) → j < k → nth (cells_of ws) j ≡ nth cs j

pub none_laid : (cs : List Cell) (ws : List ℕ) → length ws ≡ most_words → LaidTo cs 0 ws
none_laid cs ws e = record { long = e; same = λ j l. absurd (omega arith) }

room : (ws : List ℕ) (k : ℕ) → length ws ≡ most_words → k < most_records → k < records ws
unfolding records
room ws k e l = omega arith

module _ {cs : List Cell} {k : ℕ} {ws : List ℕ} (laid : LaidTo cs k ws) where
  pub one_more : (vs : List ℕ) (c : Cell) → k < most_records → c ≡ nth cs k → vs ≡ stored ws k c → LaidTo cs (k + 1) vs
  one_more vs c l e q = rw q (record {
    long = length-stored ws k c ∙ laid.long;
    same = rw (add-one k, cells_of-stored) (below_suc (λ j. nth (set (cells_of ws) k c) j ≡ nth cs j) k
        (λ j m. get_or-set_other (cells_of ws) k j c free (λ h. omega arith) ∙ laid.same j m)
        (get_or-set_same (cells_of ws) k c free (rw (length-cells_of ws) (room ws k laid.long l)) ∙ e));
  })

  here : (j : ℕ) → k ≤ most_records → j < k → cell_at ws j ≡ nth cs j
  here j few l = sym (nth-cells_of ws j (room ws j laid.long (omega arith))) ∙ laid.same j l

  -- word i of the first k records is field i % width of record i / width
  word : (i : ℕ) → k ≤ most_records → k ≤ length cs → i < k * width → get_or ws i 0 ≡ get_or (words_of cs) i 0
  word i few l h =
      let m : i / width < k = omega arith in
      let r : i % width < width = omega arith in
      let q : i / width * width + i % width ≡ i = omega arith in
      let e = ap (λ (d : Cell). get_or (fields d) (i % width) 0) (here (i / width) few m) in
      rw q at (sym (field_at ws (i / width) (i % width) r) ∙ e ∙ sym (words_of-at cs (i / width) (i % width) (omega arith) r))

  pub all_laid : k ≡ length cs → Laid cs ws
  all_laid e = record { long = laid.long; words = known }
    where
      known : length cs ≤ most_records → take (length cs * width) ws ≡ words_of cs
      known few =
          let n : length (take (length cs * width) ws) ≡ length cs * width = length-take-le (length cs * width) ws (omega (arith, laid.long)) in
          ext_get_or 0 (take (length cs * width) ws) (words_of cs) (n ∙ sym (length-words_of cs))
          (λ i h. get_or-take (length cs * width) ws i 0 (omega arith) ∙ word i (omega arith) (omega arith) (omega arith))

-- ---- what a scan answers
pub too_many : (n : ℕ) (f : Option ℕ) → most_records < n → Err TooManyRecords ≡ answered n f
unfolding answered
too_many n f l = rw (lt-leb n most_records l)

pub not_too_many : (n : ℕ) (f : Option ℕ) → n ≤ most_records → finding_of f ≡ answered n f
unfolding answered
not_too_many n f l = rw (le-leb n most_records l)

-- there is one way to be told of too many
pub told : (n : ℕ) (f : Option ℕ) (a : Finding) → IsErr a → most_records < n → a ≡ answered n f
told n f (Ok g) h l = absurd (false≢true h)
told n f (Err TooManyRecords) h l = too_many n f l

-- the first n records of a table are so many
pub first_ones : (n : ℕ) (cs ds : List Cell) (f : Option ℕ) → cs ≡ take n ds → n ≤ most_records → length ds ≡ most_records
    → answered (length cs) f ≡ answered n f
first_ones n cs ds f e l q = rw (e, length-take-le n ds (omega arith))

-- what is found in the words of the records is what is found in the records
pub scanned : (scan : List Cell → Option ℕ) (cs : List Cell) (found : Option ℕ)
    → (length cs ≤ most_records → found ≡ scan (cells_of (words_of cs))) → answered (length cs) found ≡ answered (length cs) (scan cs)
scanned scan cs found h =
    ⊎_elim (λ q. few (leb-true _ most_records q)) (λ q. many (leb-false _ most_records q)) (passes (leb (length cs) most_records))
  where
    few : length cs ≤ most_records → answered (length cs) found ≡ answered (length cs) (scan cs)
    few l = ap (answered (length cs)) (h l ∙ ap scan (cells_of-words_of cs))

    many : most_records < length cs → answered (length cs) found ≡ answered (length cs) (scan cs)
    many l = sym (too_many (length cs) _ l) ∙ too_many (length cs) _ l
