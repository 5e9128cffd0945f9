-- The numbers still to come, all of them before the last, would stand before what stands.
-- Assumes nothing.
use Rattle.std.proofs.Common.{ℕ, ◌+◌, ◌*◌, ◌≤◌, ◌<◌, ◌≡◌, ◌++◌, length, get_or}
use Rattle.std.specs.Iterator.Adapters.{rev_source}
use Rattle.std.specs.Slice.Iter.{iter_rest}
use Rattle.laws.specs.Lists.{blocks}
use Rattle.printing.specs.Printed.{field_at, numbers_line, field_bytes}
use Rattle.printing.proofs.line.Line.prepend_all.Given as goal

abbrev pub invariant-loop-number : goal.invariant-loop-number
invariant-loop-number l =
    let rest = iter_rest (rev_source l.number-iterator) in
    record {
      few : length rest < length l.numbers;
      same : (k : ℕ) → k < length rest → get_or rest k 0 ≡ get_or l.numbers k 0;
      size : length l.self + length rest * field_bytes ≤ length l.fn.self + length l.numbers * field_bytes;
      text : blocks (length rest) (field_at l.numbers) ++ l.self ≡ numbers_line l.numbers ++ l.fn.self;
    }
