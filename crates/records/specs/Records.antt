-- The scans of the rules over a lent slice of records, and the records laid out as words.
-- Assumes nothing.
use Rattle.std.specs.Prelude.{ℕ, ◌*◌, ◌≤◌, ◌≡◌, cond, List, leb, length, take, Option, Result, Ok, Err}
use Rattle.std.proofs.Math.Bool.{So}
use Rattle.rules.specs.declared.Output.{Output}
use Rattle.rules.specs.declared.Cell.{Cell}
use Rattle.rules.specs.Cells.{most_records, width, is_whole, cells_of, words_of}
use Rattle.rules.specs.Phases.{lowest_free, oldest_ready}
use Rattle.words.proofs.Words.{cells_of-words_of, words_of-cells_of}
use Rattle.records.specs.declared.ScanError.{ScanError}
use Rattle.records.specs.declared.ScanError.TheVariants.{TooManyRecords}

-- what a scan over records answers: what it found, or why it did not look
abbrev pub Finding : Type 0
Finding = Result (Option ℕ) ScanError

abbrev pub finding_of : Option ℕ → Finding
finding_of f = Ok f

-- the words of as many records as a table may have: `MOST_WORDS` of the source
abbrev pub most_words : ℕ
most_words = most_records * width

-- what was found in a list of n records, where there are not too many
unfoldable pub answered : ℕ → Option ℕ → Finding
answered n f = cond (leb n most_records) (finding_of f) (Err TooManyRecords)

unfoldable pub lowest_free_of : List Cell → Finding
lowest_free_of cs = answered (length cs) (lowest_free cs)

unfoldable pub oldest_ready_of : List Cell → Output → Finding
oldest_ready_of cs o = answered (length cs) (oldest_ready cs o)

-- a list of records and its words are the same table: each is got back from the other
pub record SameTable : Type 0 where
  pub by_words : (cs : List Cell) → cells_of (words_of cs) ≡ cs
  pub by_records : (ws : List ℕ) → So (is_whole ws) → words_of (cells_of ws) ≡ ws

pub same-table : SameTable
same-table = record { by_words = cells_of-words_of; by_records = words_of-cells_of }

-- ws begin with the words of cs, where these are not too many
pub record Laid (cs : List Cell) (ws : List ℕ) : Type 0 where
  pub long : length ws ≡ most_words
  pub words : length cs ≤ most_records → take (length cs * width) ws ≡ words_of cs

-- where the records are not too many, what is answered was found in their words
pub record Scanned (Finds : List ℕ → Option ℕ → Type 0) (cs : List Cell) (a : Finding) : Type 0 where
  pub found : Option ℕ
  pub answer : a ≡ answered (length cs) found
  pub by_words : length cs ≤ most_records → Finds (words_of cs) found
