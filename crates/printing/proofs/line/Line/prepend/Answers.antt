-- The digits are few enough, and end where the byte stands that comes behind them.
-- Assumes nothing.
use Rattle.std.proofs.Common.{◌≡◌, ◌∙◌, ℕ, List, ◌+◌, ◌-◌, ◌<◌, ◌≤◌, ◌∷◌, ◌++◌, ◌^◌, [], length, drop, set, sym, ap, arith, append_assoc, length-append, length-set, length-drop}
use Rattle.std.specs.Fmt.{decimal as std_decimal}
use Rattle.std.proofs.lemmas.Fmt.{length-decimal-le}
use Rattle.std.proofs.lemmas.List.{drop-set}
use Rattle.printing.specs.Printed.{decimal, field, field_bytes, number_bytes}
use Rattle.printing.specs.Prints.{decimal_std, decimal_short}
use Rattle.printing.proofs.line.Line.prepend.Goals as goal

-- the digits, the byte, and what stood
field_before : (n b end : ℕ) (stood bytes rest : List ℕ) → n < 2 ^ 64 → end < length stood → drop (end + 1) stood ≡ rest
    → bytes ≡ std_decimal n ++ drop end (set stood end b) → bytes ≡ field n b ++ rest
unfolding field
field_before n b end stood bytes rest small inside after e =
    e
    ∙ rw (decimal_std n small, drop-set stood end b inside, after)
    (sym (append_assoc (decimal n) (b ∷ []) rest))

field_short : (n b : ℕ) → n ≤ 4294967295 → length (field n b) ≤ field_bytes
unfolding field
field_short n b small = omega (arith, length-append (decimal n) (b ∷ []), decimal_short n small)

pub write_digits-self-inside-requires : goal.write_digits-self-inside-requires
write_digits-self-inside-requires c =
    let room = ap length c.self.view_is in
    let bytes = c.self.inside.bytes in
    let long : c.self.inside.start ≤ length bytes = omega (arith, c.self.told, c.self.invariant) in (
      omega (arith, room, length-drop c.self.inside.start bytes, length-decimal-le number_bytes c.from.result (omega arith) (omega arith) (omega arith)),
      omega (arith, length-set bytes (c.self.inside.start - 1) c.args.after),
    )

pub returns-clause-text : goal.returns-clause-text
returns-clause-text c =
    let w = c.write_digits-self-inside in
    let e = rw c.from.ensures at w.ensures.written in
    let bytes = c.self.inside.bytes in
    let start : c.self.inside.start - 1 + 1 ≡ c.self.inside.start = omega (arith, ap length c.self.view_is, length-drop c.self.inside.start bytes) in
    field_before c.args.number c.args.after (c.self.inside.start - 1) bytes _ c.args.self.now (omega arith) (omega arith) (rw start c.self.view_is) e

pub returns-clause-size : goal.returns-clause-size
returns-clause-size c =
    omega (
      arith,
      ap length (returns-clause-text c),
      length-append (field c.args.number c.args.after) c.args.self.now,
      field_short c.args.number c.args.after (omega arith),
    )
