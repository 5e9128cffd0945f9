-- Each arm is the case of `coming_by`; a line begins with its first byte.
use Rattle.std.specs.Prelude.{ℕ, ◌≡◌, ◌+◌, Some, get_or}
use Rattle.std.proofs.Common.{arith, sym, ◌∙◌}
use Rattle.std.proofs.lemmas.Option.{slice_get-get_or}
use Rattle.program.specs.Coming.{coming_by}
use Rattle.program.specs.Turns.{Steps, goes_byte, goes_over}
use Rattle.program.proofs.Turns.{goes_begins}
use Rattle.program.proofs.Program.advance.Goals as goal

-- what stands in an option is settled
some_same : {a b : ℕ} → Some a ≡ Some b → a ≡ b
some_same e = cc

pub returns-in-First-clause-goes : goal.returns-in-First-clause-goes
unfolding coming_by
returns-in-First-clause-goes c =
    let p = c.args.piece.now in
    let q = c.next_byte.new.self in
    let there = slice_get-get_or p.bytes.now p.next 0 c.requires.more in
    let some : c.next_byte.result ≡ Some (get_or p.bytes.now p.next 0) = c.next_byte.ensures.byte ∙ there in
    let byte : get_or p.bytes.now p.next 0 ≡ c.unwrap-byte.result = some_same (sym some ∙ c.unwrap-byte.ensures) in
    let next : q.next ≡ p.next + 1 = rw some at c.next_byte.ensures.next in
    let step : Steps p q = record { bytes = c.next_byte.ensures.same_bytes; next = next } in
    rw c.in-First.is (goes_byte _ _ c.requires.more byte step c.first_step.ensures.turns (omega arith))

pub returns-in-Between-clause-goes : goal.returns-in-Between-clause-goes
returns-in-Between-clause-goes c =
    let begun = rw c.start.ensures at c.advance.ensures.goes in
    rw c.in-Between.is (goes_begins c.in-Between.running c.args.memory.now.line_long c.requires.more begun)

pub returns-in-Over-clause-goes : goal.returns-in-Over-clause-goes
returns-in-Over-clause-goes c =
    let p = c.args.piece.now in
    let a = c.skip_all.ensures in
    rw c.in-Over.is (goes_over _ p c.skip_all.new.self _ _ _ a.same_bytes (omega (arith, a.next, p.inside)))
