-- A byte is a step of the reader; at the newline the line is what the reader says.
use Rattle.std.proofs.Common.{sym, arith, ne_eqb}
use Rattle.characters.specs.Characters.{newline}
use Rattle.text.specs.Lines.{unreadable}
use Rattle.program.specs.Program.{first_text}
use Rattle.program.specs.Bytes.{opening_end}
use Rattle.program.specs.Turns.{turns_as, turns_first, turns_over}
use Rattle.program.proofs.first_step.Goals as goal

pub returns-then-byte-ne-NEWLINE-clause-turns : goal.returns-then-byte-ne-NEWLINE-clause-turns
returns-then-byte-ne-NEWLINE-clause-turns c = rw c.step.ensures (turns_first _ _ _ _ (ne_eqb _ newline c.if-byte-ne-NEWLINE.true))

pub returns-in_default-clause-turns : goal.returns-in_default-clause-turns
unfolding first_text
returns-in_default-clause-turns c =
    turns_over c.put_unreadable.ensures (omega arith)
    (λ rest. opening_end c.args.reader c.args.byte rest unreadable c.if-byte-ne-NEWLINE.false (sym c.in_default.ensures))

pub returns-clause-turns : goal.returns-clause-turns
returns-clause-turns c = turns_as c.begin.ensures.turns (λ rest. opening_end c.args.reader c.args.byte rest _ c.if-byte-ne-NEWLINE.false (sym c.in-Some.ensures))
