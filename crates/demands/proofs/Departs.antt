-- Demand 3 for runs: from the slot in which a cell enters, through any calls up to the next accepted fresh start, it is due in one slot and shown
-- there and nowhere else. The two properties of report 4.1, too, for each accepted slot of a run: the first of them for any policy.
-- Assumes nothing.
use Rattle.std.specs.Prelude.{◌≡◌, not, List, ◌∷◌, ℕ, zero, suc, ◌+◌, ◌≤◌, ◌<◌, length}
use Rattle.std.proofs.Common.{sym, subst, ◌∙◌}
use Rattle.std.proofs.Math.Path.{ap}
use Rattle.std.proofs.Math.Logic.{inl}
use Rattle.std.proofs.Math.Bool.{So}
use Rattle.std.proofs.lemmas.Bool.{false≢true}
use native.Mathlib.Omega.{arith}
use Rattle.laws.specs.Tests.{No, both}
use Rattle.rules.specs.declared.Switch.{Switch}
use Rattle.rules.specs.declared.Cell.{Cell}
use Rattle.rules.specs.Cells.{slot_of, nth, cells_of, older}
use Rattle.rules.specs.Answers.{Lists, arrives}
use Rattle.rules.specs.Phases.{arrival, readings, exhaled}
use Rattle.rules.specs.Calls.{State, Call, starts, slots, Answered, raised, transferred, slot_runs, does, run}
use Rattle.rules.specs.Demands.{is_accepted, restarts, runs_slot, unbroken, call_at, state_at, inhaled, at_exhale, elders, emits, emitted, Leaves}
use Rattle.ideal.specs.Fit.{Fit, stays_itself}
use Rattle.ideal.specs.Phases.{match_readied}
use Rattle.ideal.specs.Exhaled.{shown→}
use Rattle.ideal.proofs.Exhaled.{shown}
use Rattle.ideal.specs.Calls.{Accepted, slot_cells}
use Rattle.ideal.proofs.Calls.{entered-fit, after-fit}
use Rattle.ideal.specs.Runs.{KeptBySlots, slot_accepts, slot-does, unbroken-at}
use Rattle.demands.specs.Ages.{age}
use Rattle.demands.specs.Policy.{Policy}
use Rattle.demands.specs.Led.{Led}
use Rattle.demands.proofs.States.{Ruled, age_rule, by_age_ruled, call_entry, call_leads, Good, good_kept}
use Rattle.demands.specs.Conserves.{works, orders}
use Rattle.demands.specs.Elders.{readied_holds}
use Rattle.demands.specs.Due.{Due, due_hold, inhale_holds}
use Rattle.demands.proofs.Due.{due_exhale}

-- An accepted slot -------------------------------------------------------------------------------

module _ (x : State) (ls : Lists) (h : So (is_accepted x (slots ls))) where
  -- the table at the end of the inhale and at the exhale, and what is then shown
  abbrev full : List Cell
  full = inhaled x ls.arrivals

  abbrev table : List Cell
  table = at_exhale x ls.arrivals

  abbrev shows : List ℕ
  shows = (does x (slots ls)).exhaled

  a : Accepted x.numbers x.table ls
  a = slot_accepts x ls h

  -- the exhaled list is that of the table at the exhale
  shows-table : shows ≡ exhaled x.numbers.ports table
  unfolding slot_runs at_exhale inhaled
  shows-table = ap (λ s. s.exhaled) (slot-does x ls h)

  table_fits : Fit x.numbers.ports (slot_of (suc x.numbers.next.0)) table
  unfolding at_exhale inhaled transferred
  table_fits = after-fit a x.numbers.speedup

  module _ {rule : Switch → Policy} (ruled : Ruled rule) (g : Good rule x) (fast : (rule x.numbers).weight < x.numbers.speedup) where
    table_led : Led (length table) (rule x.numbers).key (nth table)
    unfolding at_exhale inhaled
    table_led = call_leads a g.clock ruled fast (g.slack fast)

    -- "whenever there are any cells in the switch destined to output o .., output o exhales some cell"
    pub slot_works : (k : ℕ) → k < length table → 1 ≤ (nth table k).place → So (emits shows (nth table k).output.0)
    slot_works k l w =
        let d = works table_fits table_led k l w in
        let e = (shown x.numbers.ports table d.0 d.2).0 in
        rw shows-table (subst (λ o. So (emits (exhaled x.numbers.ports table) o)) d.3 e)

  module _ (g : Good age_rule x) (fast : 3 ≤ x.numbers.speedup) where
    by_age_led : Led (length table) age (nth table)
    by_age_led = table_led by_age_ruled g fast

    -- "there are no cells in the switch destined to output o that precede c"
    pub slot_orders : (o : ℕ) → o < x.numbers.ports → So (emits shows o) → (k : ℕ) → k < length table → 1 ≤ (nth table k).place
        → (nth table k).output.0 ≡ o → No (older (nth table k) (emitted shows o))
    slot_orders o m e k l w q =
        let d = shown→ x.numbers.ports table o m (rw shows-table at e) in
        rw (shows-table, d.4) (orders a.sizes.ports.1 table_fits by_age_led d.0 k d.2 l w (q ∙ sym d.3))

    -- a cell that is due is shown in its slot and in no other, and is due afterwards
    slot_due : {c : Cell} {s : ℕ} → c.entered.0 ≤ x.numbers.next.0 → Due c s x.numbers.next.0 full
        → Leaves c s x.numbers shows × Due c s (does x (slots ls)).after.numbers.next.0 (cells_of (does x (slots ls)).after.table)
    unfolding inhaled at_exhale transferred slot_runs
    slot_due early d =
        let moved = match_readied x.numbers.ports (readings full) full x.numbers.speedup in
        let due = due_hold (readied_holds (suc x.numbers.next.0) (entered-fit a) moved) (omega arith) d in
        let e = due_exhale x.numbers a.sizes.ports.1 table_fits by_age_led due in
        (rw shows-table e.0, rw (slot-does x ls h, slot_cells a) e.1)

    -- the cell that arrives at input i, in the slot in which it enters
    arrival_due : (i : ℕ) → i < x.numbers.ports → So (arrives ls.arrivals i)
        → let c : Cell = arrival x.numbers.next ls.arrivals i in Due c (x.numbers.next.0 + elders full c) x.numbers.next.0 full
    unfolding inhaled
    arrival_due i l y =
        let came = (call_entry a g.clock).came in
        let k = came.came i l y in
        let itself = stays_itself (arrival x.numbers.next ls.arrivals i) (omega arith) (omega arith) in
        inl (record { number = k.0; below = omega (arith, k.1, came.long); stays = rw k.3 itself; turn = omega arith })

-- Runs -------------------------------------------------------------------------------------------

-- what a state carries of a cell that is due in slot s
record Carries (c : Cell) (s : ℕ) (x : State) : Type 0 where
  good : Good age_rule x
  fast : 3 ≤ x.numbers.speedup
  entered : c.entered.0 < x.numbers.next.0
  due : Due c s x.numbers.next.0 (cells_of x.table)

module _ (c : Cell) (s : ℕ) where
  module _ (x : State) (ls : Lists) (h : So (is_accepted x (slots ls))) where
    abbrev left : State
    left = (does x (slots ls)).after

    ticks : left.numbers ≡ raised x.numbers
    unfolding slot_runs
    ticks = ap (λ (s : Answered). s.after.numbers) (slot-does x ls h)

    -- an accepted slot after that of entry
    carried : Carries c s x → Leaves c s x.numbers (does x (slots ls)).exhaled × Due c s left.numbers.next.0 (cells_of left.table)
    unfolding inhaled
    carried p =
        let b = slot_accepts x ls h in
        slot_due x ls h p.good p.fast (omega (arith, p.entered))
        (due_hold (inhale_holds (call_entry b p.good.clock).came b.fits) p.entered p.due)

    carries : Good age_rule x → 3 ≤ x.numbers.speedup → c.entered.0 ≤ x.numbers.next.0
        → Due c s left.numbers.next.0 (cells_of left.table) → Carries c s left
    carries g fast e d = record {
      good = good_kept by_age_ruled x ls h g;
      fast = subst (λ (w : Switch). 3 ≤ w.speedup) (sym ticks) fast;
      entered = subst (λ (w : Switch). c.entered.0 < w.next.0) (sym ticks) (omega arith);
      due = d;
    }

  carries_kept : KeptBySlots (Carries c s)
  carries_kept x ls h p = carries x ls h p.good p.fast (omega (arith, p.entered)) (carried x ls h p).1

  shown_in : (x : State) (d : Call) → So (runs_slot x d) → Carries c s x → Leaves c s x.numbers (does x d).exhaled
  unfolding runs_slot
  shown_in x (starts w) h p = absurd (false≢true h)
  shown_in x (slots ls) h p = (carried x ls h p).0

-- in the slot of entry and through any later calls up to the next accepted fresh start
pub departs : (x : State) → Good age_rule x → 3 ≤ x.numbers.speedup → (ls : Lists) → let call : Call = slots ls in So (is_accepted x call)
    → (i : ℕ) → i < x.numbers.ports → So (arrives ls.arrivals i)
    → let c : Cell = arrival x.numbers.next ls.arrivals i in
    let s : ℕ = x.numbers.next.0 + elders (inhaled x ls.arrivals) c in
    (later : List Call) → So (unbroken x (call ∷ later)) → (j : ℕ)
    → let y : State = state_at x (call ∷ later) j in
    let d : Call = call_at (call ∷ later) j in
    So (runs_slot y d) → Leaves c s y.numbers (does y d).exhaled
unfolding state_at run unbroken
departs x g fast ls h i l y later u zero r = (slot_due x ls h g fast (omega arith) (arrival_due x ls h g fast i l y)).0
departs x g fast ls h i l y later u (suc j) r =
    shown_in c s (state_at next later j) (call_at later j) r
    (unbroken-at (Carries c s) (carries_kept c s) next later (both (not (restarts x (slots ls))) _ u).1 first j)
  where
    c : Cell
    c = arrival x.numbers.next ls.arrivals i

    s : ℕ
    s = x.numbers.next.0 + elders (inhaled x ls.arrivals) c

    next : State
    next = (does x (slots ls)).after

    first : Carries c s next
    first = carries c s x ls h g fast (omega arith) (slot_due x ls h g fast (omega arith) (arrival_due x ls h g fast i l y)).1
