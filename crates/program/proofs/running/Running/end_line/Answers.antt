-- A line that was read: its words came back, as many, and the slot runs with them.
use Rattle.std.proofs.Common.{◌∙◌, ◌≡◌, true, arith, take, take_at, length-take-le}
use Rattle.text.specs.Steps.{line_state_of, end_field, is_complete}
use Rattle.program.specs.Turns.{turns_read}
use Rattle.program.proofs.running.Running.end_line.Goals as goal

pub returns-clause-turns : goal.returns-clause-turns
returns-clause-turns c =
    let width = c.line_words-width.result in
    let line = take width c.args.memory.now.arrivals.now in
    let long = length-take-le width c.args.memory.now.arrivals.now (omega (arith, c.line_words-width.ensures.within, c.args.memory.now.line_long)) in
    let s = line_state_of c.args.reader line in
    let complete : is_complete (end_field s) ≡ true = cc in
    rw (← c.line_words-width.ensures.value)
    (turns_read _ s _ complete (take_at _ _ _ (c.finish.auto.words ∙ long) ∙ c.finish.ensures.left) c.slot.ensures)
