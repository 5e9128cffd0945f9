-- Too many records are told of; the words of the others are what is scanned.
use Rattle.std.proofs.Common.{arith, None}
use Rattle.records.specs.Layout.{too_many, not_too_many}
use Rattle.records.proofs.scan.Goals as goal

pub returns-then-cells-gt-MOST_RECORDS : goal.returns-then-cells-gt-MOST_RECORDS
returns-then-cells-gt-MOST_RECORDS g c =
    let l = c.if-cells-gt-MOST_RECORDS.true in
    record { found = None; answer = too_many _ _ l; by_words = λ few. absurd (omega arith) }

pub returns : goal.returns
returns g c = record {
  found = c.find.result;
  answer = not_too_many _ _ c.if-cells-gt-MOST_RECORDS.false;
  by_words = λ few. (_, c.find.ensures, c.lay_out-words.ensures.words few);
}
