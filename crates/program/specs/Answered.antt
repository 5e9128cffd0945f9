-- What a call answers, done or refused, and what is printed of a slot's answer.
-- Assumes nothing.
use Rattle.std.specs.Prelude.{◌≡◌, refl, ℕ, List, Ok, Err}
use Rattle.std.proofs.Math.Bool.{So}
use Rattle.laws.specs.Tests.{No}
use Rattle.rules.specs.declared.Switch.{Switch}
use Rattle.rules.specs.declared.Refusal.{Refusal}
use Rattle.rules.specs.declared.Refusal.TheVariants.{BadPorts, BadSpeedup, BadRecords, Unfit, BadLists, NoSuchOutput, ClockSpent, NoRoom}
use Rattle.rules.specs.Answers.{number_of, is_done}
use Rattle.printing.specs.Printed.{refused_line}
use Rattle.program.specs.Program.{slot_text, answer_text}

pub not_done : (r : Refusal) → No (is_done (Err r))
unfolding is_done
not_done BadPorts = refl
not_done BadSpeedup = refl
not_done BadRecords = refl
not_done Unfit = refl
not_done BadLists = refl
not_done NoSuchOutput = refl
not_done ClockSpent = refl
not_done NoRoom = refl

pub ok_done : (u : Unit {0}) → So (is_done (Ok u))
unfolding is_done
ok_done u = refl

pub done_text : (w : Switch) (u : Unit {0}) (e : List ℕ) → answer_text w (Ok u) e ≡ slot_text w.next.0 w.ports e
unfolding answer_text is_done
done_text w u e = refl

pub refused_text : (w : Switch) (r : Refusal) (e : List ℕ) → answer_text w (Err r) e ≡ refused_line (number_of (Err r))
unfolding answer_text
refused_text w r e = rw (not_done r)
