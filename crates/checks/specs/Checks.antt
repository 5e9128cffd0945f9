-- What the code's checks work out, row by row and group by group.
-- Assumes nothing.
use Rattle.std.specs.Prelude.{◌≡◌, Bool, not, ◌||◌, List, ℕ, Ok, Err}
use Rattle.std.proofs.Common.{sym, ap, ◌∙◌, refl}
use Rattle.std.proofs.Math.Bool.{So}
use Rattle.laws.specs.Tests.{No}
use Rattle.rules.specs.declared.Refusal.{Refusal}
use Rattle.rules.specs.declared.Refusal.TheVariants.{BadPorts, BadSpeedup, BadRecords, Unfit, BadLists, NoSuchOutput, ClockSpent, NoRoom}
use Rattle.rules.specs.Cells.{most_records, is_whole, records}
use Rattle.rules.specs.Answers.{Answer, Lists, lists, is_done, outside}
use Rattle.checks.specs.declared.SlotLists.{SlotLists}

-- the rules' lists, of those that are lent
abbrev pub lists_of : SlotLists → Lists
lists_of l = lists l.arrivals.now l.matches.now l.exhaled.now

-- "the table has 0 or more than 1,024 records", or its words are no whole records
unfoldable pub size_unfit : List ℕ → Bool
size_unfit table = not (is_whole table) || outside (records table) most_records

-- what the code sees of a group's answer, told of what the group's rows give
pub group_passed : {u : Unit} {a : Answer} → Ok u ≡ a → So (is_done a)
unfolding is_done
group_passed e = ap is_done (sym e)

refusal : (r : Refusal) → No (is_done (Err r))
unfolding is_done
refusal BadPorts = refl
refusal BadSpeedup = refl
refusal BadRecords = refl
refusal Unfit = refl
refusal BadLists = refl
refusal NoSuchOutput = refl
refusal ClockSpent = refl
refusal NoRoom = refl

pub group_refused : {r : Refusal} {a : Answer} → Err r ≡ a → No (is_done a)
group_refused {r} e = ap is_done (sym e) ∙ refusal r
