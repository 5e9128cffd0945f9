-- The lent part of the table answers as the table asked for, however long that is.
use Rattle.std.proofs.Common.{◌++◌, ◌∙◌, ◌≡◌, length, List, ℕ, sym, ap, arith, take, length-take-le}
use Rattle.rules.specs.Cells.{switch}
use Rattle.rules.specs.Calls.{State}
use Rattle.printing.specs.Printed.{header_line}
use Rattle.program.specs.Answered.{not_done, ok_done}
use Rattle.program.specs.Program.{lines_of, slots_text, first_text}
use Rattle.program.specs.Lent.{lent_words, lent_table_words}
use Rattle.program.specs.Start.{lent_small, start_refused_lem, start_done, start_sizes}
use Rattle.program.specs.Turns.{state_front, turns_over, turns_between}
use Rattle.program.proofs.running.Running.begin.Goals as goal

-- the lent words of the table
lent_long : (words records : ℕ) (table : List ℕ) → words ≡ lent_words records → length table ≡ lent_table_words → length (take words table) ≡ words
lent_long words records table is long = length-take-le words table (omega (arith, is, lent_small records, long))

pub slice_bounds-fresh_start-end : goal.slice_bounds-fresh_start-end
slice_bounds-fresh_start-end c = omega (arith, c.lent_words-words.ensures, lent_small c.args.line.records, c.args.memory.now.table_long)

pub slice_bounds-fresh_start-end-2 : goal.slice_bounds-fresh_start-end-2
slice_bounds-fresh_start-end-2 c =
    omega (arith, lent_long _ _ c.args.memory.now.table.now c.lent_words-words.ensures c.args.memory.now.table_long)

pub returns-in-Err-clause-turns : goal.returns-in-Err-clause-turns
unfolding first_text
returns-in-Err-clause-turns c =
    let line = c.args.line in
    let w = switch line.ports line.speedup 0 in
    let own = lent_long _ _ c.args.memory.now.table.now c.lent_words-words.ensures c.args.memory.now.table_long ∙ c.lent_words-words.ensures in
    turns_over (rw c.number.ensures at c.put_refused.ensures) (omega arith)
    (λ rest. start_refused_lem w line.records _ own _ c.in-Err.ensures (not_done c.in-Err.refusal) (lines_of rest))

pub invariant_of-result : goal.invariant_of-result
invariant_of-result c =
    let line = c.args.line in
    let own = lent_long _ _ c.args.memory.now.table.now c.lent_words-words.ensures c.args.memory.now.table_long ∙ c.lent_words-words.ensures in
    let z = start_sizes (switch line.ports line.speedup 0) line.records _ own _ c.in_default.ensures (ok_done c.in_default.field-0) in
    record { ports = z.0; speedup = z.1; lent = omega (arith, c.lent_words-words.ensures, lent_small line.records) }

pub returns-clause-turns : goal.returns-clause-turns
unfolding first_text
returns-clause-turns c =
    let line = c.args.line in
    let w = switch line.ports line.speedup 0 in
    let long = lent_long _ _ c.args.memory.now.table.now c.lent_words-words.ensures c.args.memory.now.table_long in
    turns_between c.put_header.ensures (omega arith)
    (λ rest. start_done w line.records _ (long ∙ c.lent_words-words.ensures) _ c.in_default.ensures (ok_done c.in_default.field-0) (lines_of rest)
    ∙ ap (λ (x : State). header_line ++ slots_text x (lines_of rest)) (sym (state_front _ _ _ _ (c.fresh_start.auto.table ∙ long))))
