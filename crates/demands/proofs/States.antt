-- What holds of every state of a run from an accepted fresh start: the table is fit, the clock is not past its end, and with S above the weight of the
-- policy in force the invariant stands. So at the exhale of an accepted slot each waiting cell is led, by age by an older ready one for its output.
-- Assumes nothing.
use Rattle.std.specs.Prelude.{◌≡◌, refl, List, ◌∷◌, ℕ, ◌≤◌, ◌<◌, length, replicate}
use Rattle.std.proofs.Common.{sym, ◌∙◌, arith, eq-or-lt_of_le}
use Rattle.std.proofs.Math.Path.{subst, ap}
use Rattle.std.proofs.Math.Logic.{⊎_elim}
use Rattle.std.proofs.Math.Bool.{So}
use Rattle.rules.specs.declared.Switch.{Switch}
use Rattle.rules.specs.declared.Cell.{Cell}
use Rattle.rules.specs.Cells.{last_slot, nth, cells_of}
use Rattle.rules.specs.Answers.{Lists}
use Rattle.rules.specs.Phases.{readings, exhale}
use Rattle.rules.specs.Calls.{State, Call, starts, raised, entered, transferred, slot_runs, run}
use Rattle.rules.specs.Demands.{is_accepted}
use Rattle.words.proofs.Words.{cells_of-zeros}
use Rattle.ideal.specs.Cells.{place≡}
use Rattle.ideal.specs.Fit.{Fit}
use Rattle.ideal.specs.Phases.{phases_by, phases_by_lem}
use Rattle.ideal.specs.Inhale.{inhale_is}
use Rattle.ideal.specs.Calls.{Accepted, full, slot_cells, fresh-fit}
use Rattle.ideal.proofs.Calls.{entered-fit, slot-fit}
use Rattle.ideal.specs.Runs.{KeptBySlots, MadeByStarts, slot_accepts, slot-does, start_does, from_fresh}
use Rattle.demands.specs.Policy.{Policy, by_age}
use Rattle.demands.specs.Led.{Led}
use Rattle.demands.proofs.Slots.{Rest, Laden, Entry, inhale_laden, slot_leads, slot_rests}

-- The policy in force ----------------------------------------------------------------------------

-- a switch makes its phases by the policy that its numbers name, and a slot leaves that policy in force
pub record Ruled (rule : Switch → Policy) : Type 0 where
  pub made : (w : Switch) (cs : List Cell) → transferred w cs ≡ phases_by (λ i. (rule w).pick w.ports (readings cs)) cs w.speedup
  pub kept : (w : Switch) → rule (raised w) ≡ rule w

-- today it is by age, whatever the numbers; document 02's L1 has the mode name it
abbrev pub age_rule : Switch → Policy
age_rule w = by_age

pub by_age_ruled : Ruled age_rule
unfolding transferred
by_age_ruled = record { made = λ w cs. phases_by_lem w.ports (readings cs) cs w.speedup; kept = λ w. refl }

-- An accepted slot -------------------------------------------------------------------------------

module _ {w : Switch} {table : List ℕ} {ls : Lists} (a : Accepted w table ls) (clock : w.next.0 ≤ last_slot) where
  pub call_entry : Entry w.ports w.next ls.arrivals (cells_of table) (full a)
  unfolding entered
  call_entry = record {
    ports = a.sizes.ports.1;
    clock = ⊎_elim (λ e. absurd (a.clock e)) (λ l. l) (eq-or-lt_of_le clock);
    fits = a.fits;
    came = inhale_is w.ports w.next ls.arrivals (cells_of table) a.room;
    stays_fit = entered-fit a;
  }

  module _ {rule : Switch → Policy} (ruled : Ruled rule) (fast : (rule w).weight < w.speedup) (inv : Rest (rule w) (cells_of table)) where
    laden : Laden (rule w) (full a)
    laden = inhale_laden (rule w) call_entry inv

    pub call_leads : Led (length (transferred w (full a))) (rule w).key (nth (transferred w (full a)))
    call_leads =
        rw (ruled.made w (full a))
        (slot_leads (rule w) call_entry.ports (omega (arith, call_entry.clock)) call_entry.stays_fit laden (omega arith))

    call_rests : Rest (rule w) (cells_of (slot_runs w table ls.arrivals).table)
    unfolding transferred
    call_rests =
        rw (slot_cells a ∙ ap (exhale w.ports) (ruled.made w (full a)))
        (slot_rests (rule w) call_entry.ports (omega (arith, call_entry.clock)) call_entry.stays_fit laden fast)

-- The states of a run ----------------------------------------------------------------------------

pub record Good (rule : Switch → Policy) (x : State) : Type 0 where
  pub fits : Fit x.numbers.ports x.numbers.next (cells_of x.table)
  pub clock : x.numbers.next.0 ≤ last_slot
  pub slack : (rule x.numbers).weight < x.numbers.speedup → Rest (rule x.numbers) (cells_of x.table)

module _ {rule : Switch → Policy} where
  good_made : MadeByStarts (Good rule)
  good_made x w h =
      subst (Good rule) (sym (start_does x w h))
      (record { fits = fresh-fit w x.table; clock = omega arith; slack = λ fast. record { slack = λ f l hf hl wl hfl. absurd (empty l wl) } })
    where
      empty : (k : ℕ) → (nth (cells_of (replicate (length x.table) 0)) k).place ≡ 1 → ⊥
      empty k e = omega (arith, place≡ (cells_of-zeros (length x.table) k))

  module _ (ruled : Ruled rule) where
    pub good_kept : KeptBySlots (Good rule)
    unfolding slot_runs
    good_kept x ls h g =
        let a = slot_accepts x ls h in
        subst (λ s. Good rule s.after) (sym (slot-does x ls h))
        (record {
          fits = slot-fit a;
          clock = omega (arith, (call_entry a g.clock).clock);
          slack = rw (ruled.kept x.numbers) (λ fast. call_rests a g.clock ruled fast (g.slack fast));
        })

    pub good : (start : State) (wanted : Switch) → So (is_accepted start (starts wanted)) → (calls : List Call) → Good rule (run start (starts wanted ∷ calls))
    good = from_fresh (Good rule) good_kept good_made
