-- The slot is that of `slot_on`, what is put is `line_text`, and what the switch has then is `line_after`.
use Rattle.std.proofs.Common.{◌∙◌, ◌*◌, refl, arith, take, length-take-le, replicate}
use Rattle.laws.specs.Lists.{take-replicate}
use Rattle.rules.specs.Answers.{exhaled_width}
use Rattle.program.specs.declared.running.Running.{Running}
use Rattle.program.specs.Lent.{moved_words, lent_entry_words, Blank}
use Rattle.program.specs.Turns.{moved_small, on_blank, sizes_after, turns_line}
use Rattle.program.proofs.running.Running.slot.Goals as goal

-- a front of blank is blank, of any length
blanks : (x : Running) → Blank x.crossbar.numbers (take (x.crossbar.numbers.speedup * x.crossbar.numbers.ports) (replicate moved_words 0))
    (take (x.crossbar.numbers.ports * exhaled_width) (replicate lent_entry_words 0))
blanks x = record {
  no_matches = take-replicate _ moved_words 0 (moved_small x);
  none-exhaled = take-replicate _ lent_entry_words 0 (omega (arith, x.ports));
}

pub invariant_of-result : goal.invariant_of-result
invariant_of-result c =
    let x = c.args.self in
    let o = on_blank x c.args.table.now c.args.arrivals.now _ _ _ c.slot-answer.ensures (blanks x) in
    let z = sizes_after x c.args.table.now c.args.arrivals.now _ o in
    record { ports = omega (arith, z.0, x.ports); speedup = omega (arith, z.1, x.speedup); lent = x.lent }

pub returns : goal.returns
returns c =
    let x = c.args.self in
    let a = c.args in
    let o = on_blank x a.table.now a.arrivals.now _ _ _ c.slot-answer.ensures (blanks x) in
    let own = length-take-le x.words a.table.now (omega (arith, x.lent, c.requires.table_long)) in
    turns_line x _ a.table.now a.arrivals.now _ _ o refl refl (c.slot-answer.auto.table ∙ own) c.put_outcome.ensures
