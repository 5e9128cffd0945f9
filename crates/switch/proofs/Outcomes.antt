-- A slot that is not refused is an accepted one.
use Rattle.std.specs.Prelude.{◌≡◌, ℕ, List}
use Rattle.rules.specs.declared.Switch.{Switch}
use Rattle.rules.specs.Answers.{done, Lists, slot_answer}
use Rattle.ideal.specs.Calls.{Accepted, accepted→}
use Rattle.checks.specs.Checks.{group_passed}

pub is_accepted : (w : Switch) (table : List ℕ) (l : Lists) → done ≡ slot_answer w table l → Accepted w table l
is_accepted w table l e = accepted→ w table l (group_passed e)
