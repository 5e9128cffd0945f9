-- What a store leaves in the lent words, where no record is free, and how many are live.
-- Assumes nothing.
use Rattle.std.specs.Prelude.{ℕ, ◌+◌, ◌<◌, ◌≤◌, ◌≡◌, Bool, not, List, set, Some, None}
use Rattle.std.proofs.Common.{◌∙◌, arith, add-one, length-set}
use Rattle.std.proofs.Math.Bool.{So}
use Rattle.std.proofs.Math.ListN.{length}
use Rattle.laws.specs.Tests.{No}
use Rattle.laws.specs.Walk.{below_suc}
use Rattle.laws.specs.Count.{bit, count, count_zero, count_suc, count_le}
use Rattle.laws.specs.Least.{lowest_hit}
use Rattle.laws.proofs.Least.{lowest_nothing}
use Rattle.rules.specs.declared.Cell.{Cell}
use Rattle.rules.specs.Cells.{nth, is_free, is_live, records, cells_of, older}
use Rattle.rules.specs.Answers.{live}
use Rattle.rules.specs.Phases.{lowest_free}
use Rattle.words.specs.Words.{length-cells_of, same-records, with_records, length_with}
use Rattle.words.proofs.Words.{cells_of_with}

-- the words with c as record k
abbrev pub stored : List ℕ → ℕ → Cell → List ℕ
stored ws k c = with_records ws (set (cells_of ws) k c)

module _ (ws : List ℕ) (k : ℕ) (c : Cell) where
  many : length (set (cells_of ws) k c) ≡ records ws
  many = length-set (cells_of ws) k c ∙ length-cells_of ws

  -- they are as many as they were, and so are the records
  pub length-stored : length (stored ws k c) ≡ length ws
  length-stored = length_with ws (set (cells_of ws) k c) many

  pub records-stored : records (stored ws k c) ≡ records ws
  records-stored = same-records (stored ws k c) ws length-stored

  pub cells_of-stored : cells_of (stored ws k c) ≡ set (cells_of ws) k c
  cells_of-stored = cells_of_with ws (set (cells_of ws) k c) many

-- the numbers below `from` are records, and none is free
pub record NoneBelow (ws : List ℕ) (from : ℕ) : Type 0 where
  pub inside : from ≤ records ws
  pub none : (k : ℕ) → k < from → No (is_free (nth (cells_of ws) k))

pub none_below_zero : (ws : List ℕ) → NoneBelow ws 0
none_below_zero ws = record { inside = omega arith; none = λ k l. absurd (omega arith) }

-- a scan from there on: the turn that passes a record, the turn that finds, and the end
module _ {ws : List ℕ} {k : ℕ} (b : NoneBelow ws k) where
  pub none_below_more : k < records ws → No (is_free (nth (cells_of ws) k)) → NoneBelow ws (k + 1)
  none_below_more l h = record { inside = omega arith; none = rw (add-one k) (below_suc (λ j. No (is_free (nth (cells_of ws) j))) k b.none h) }

  pub first_free : k < records ws → So (is_free (nth (cells_of ws) k)) → lowest_free (cells_of ws) ≡ Some k
  unfolding lowest_free
  first_free l h = lowest_hit _ k (length (cells_of ws)) (rw (length-cells_of ws) l) (lowest_nothing _ k b.none) h

  pub none_free : records ws ≤ k → lowest_free (cells_of ws) ≡ None
  unfolding lowest_free
  none_free l = let e : length (cells_of ws) ≡ k = omega (arith, length-cells_of ws, b.inside) in rw e (lowest_nothing _ k b.none)

-- the live records below k, counted one by one
abbrev pub live_below : List ℕ → ℕ → ℕ
live_below ws k = count (λ j. is_live (nth (cells_of ws) j)) k

module _ (ws : List ℕ) where
  pub live_none : live_below ws 0 ≡ 0
  live_none = count_zero _

  pub live_more : (k : ℕ) (b : Bool) → b ≡ is_free (nth (cells_of ws) k) → live_below ws (k + 1) ≡ live_below ws k + bit (not b)
  unfolding is_live
  live_more k b e = rw (add-one k, e) (omega (arith, count_suc (λ j. is_live (nth (cells_of ws) j)) k))

  pub live_fits : (k : ℕ) → live_below ws k ≤ k
  live_fits k = count_le _ k

  pub live_all : (k : ℕ) → k ≡ records ws → live_below ws k ≡ live (cells_of ws)
  unfolding live
  live_all k e = rw (e, length-cells_of)

-- Findings ------------------------------------------------------------------------------------------

-- record i is older than record j
abbrev pub older_at : List Cell → ℕ → ℕ → Bool
older_at cs i j = older (nth cs i) (nth cs j)
