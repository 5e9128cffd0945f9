-- What an accepted call says of its input and leaves, and what a refused one leaves. That an accepted slot leaves a fit table for the next slot, by
-- the published model, stands in proofs/Calls.antt.
-- Assumes nothing.
use Rattle.std.specs.Prelude.{◌≡◌, not, List, ℕ, ◌+◌, ◌*◌, ◌≤◌, ◌<◌, eqb, length, Err}
use Rattle.std.proofs.Math.Path.{refl}
use Rattle.std.proofs.Common.{⊎_elim, arith, eq-zero-or-pos}
use Rattle.std.proofs.Math.Bool.{So}
use Rattle.std.proofs.Math.Dec.{ltb}
use borrow.Author.Tests.{eqb-true, eqb-false, ltb-false, not-false}
use Rattle.laws.specs.Tests.{No, both, neither, to_no, cond_true, cond_false}
use Rattle.laws.specs.Count.{any, none→}
use Rattle.rules.specs.declared.Cell.{Cell}
use Rattle.rules.specs.declared.Switch.{Switch}
use Rattle.rules.specs.declared.Refusal.TheVariants.{BadPorts, BadSpeedup, BadRecords, Unfit, BadLists, NoSuchOutput, ClockSpent, NoRoom}
use Rattle.rules.specs.Cells.{most_ports, most_speedup, most_records, last_slot, slot_of, is_whole, records, cells_of}
use Rattle.rules.specs.Answers.{Answer, done, Lists, is_done, outside, arrival_width, exhaled_width, lengths_fit, first_word, arriving, live, first_of, fresh_answer, slot_answer}
use Rattle.rules.specs.Answers.{size_checks, table_checks, list_checks, arrival_checks, clock_checks, room_checks, fresh_checks, slot_checks}
use Rattle.rules.specs.Phases.{readings, phases, exhale}
use Rattle.rules.specs.Calls.{starts_fresh, start_refused, fresh_start, entered, transferred, slot_runs, slot_refused, slot}
use Rattle.rules.specs.Model.{Initial}
use Rattle.words.specs.Words.{length-cells_of}
use Rattle.words.proofs.Words.{cells_of-words_of, cells_of-zeros}
use Rattle.ideal.specs.Cells.{place≡}
use Rattle.ideal.specs.Fit.{Fit, fit→, free_sound}
use Rattle.ideal.specs.Meets.{fresh_meets}
use Rattle.ideal.specs.Refusals.{refuses, same_answer, holds_for, passed, is_done_lem, group_both}

-- What is accepted -------------------------------------------------------------------------------

inside : (x most : ℕ) → No (outside x most) → (1 ≤ x) × (x ≤ most)
unfolding outside
inside x most h =
    let b = neither (eqb x 0) (ltb most x) h in
    (⊎_elim (λ e. absurd (eqb-false x 0 b.0 e)) (λ l. l) (eq-zero-or-pos x), ltb-false most x b.1)

-- What each group of rows says where it is passed

pub record SizesFit (w : Switch) (table : List ℕ) : Type 0 where
  pub ports : (1 ≤ w.ports) × (w.ports ≤ most_ports)
  pub speedup : (1 ≤ w.speedup) × (w.speedup ≤ most_speedup)
  pub whole : So (is_whole table)
  pub size : (1 ≤ records table) × (records table ≤ most_records)

pub record ListsFit (w : Switch) (l : Lists) : Type 0 where
  pub arrivals : length l.arrivals ≡ w.ports * arrival_width
  pub matches : length l.matches ≡ w.speedup * w.ports
  pub exhaled : length l.exhaled ≡ w.ports * exhaled_width

-- each arrival is for an output that there is
abbrev pub Known : Switch → List ℕ → Type 0
Known w arrivals = (i : ℕ) → i < w.ports → first_word arrivals i ≤ w.ports

module _ (w : Switch) (table : List ℕ) where
  pub sizes_passed : So (is_done (first_of (size_checks w table))) → SizesFit w table
  unfolding refuses is_done holds_for same_answer
  sizes_passed h =
      let g = passed (size_checks w table) refl h in
      let d = neither (not (is_whole table)) (outside (records table) most_records) (g (Err BadRecords)) in
      record {
        ports = inside w.ports most_ports (g (Err BadPorts));
        speedup = inside w.speedup most_speedup (g (Err BadSpeedup));
        whole = not-false (is_whole table) d.0;
        size = inside (records table) most_records d.1;
      }

  pub fresh_sizes : So (is_done (fresh_answer w table)) → SizesFit w table
  unfolding fresh_answer
  fresh_sizes h = sizes_passed h

  pub table_passed : So (is_done (first_of (table_checks w table))) → Fit w.ports w.next (cells_of table)
  unfolding refuses is_done holds_for same_answer
  table_passed h = fit→ w.ports w.next (cells_of table) (not-false _ (passed (table_checks w table) refl h (Err Unfit)))

  pub room_passed : (arrivals : List ℕ) → So (is_done (first_of (room_checks w table arrivals)))
      → live (cells_of table) + arriving w.ports arrivals ≤ length (cells_of table)
  unfolding refuses is_done holds_for same_answer
  room_passed arrivals h = rw (length-cells_of table) (ltb-false (records table) _ (passed (room_checks w table arrivals) refl h (Err NoRoom)))

module _ (w : Switch) where
  pub lists_passed : (l : Lists) → So (is_done (first_of (list_checks w l))) → ListsFit w l
  unfolding refuses is_done holds_for same_answer lengths_fit
  lists_passed l h =
      let x = both _ _ (not-false (lengths_fit w l) (passed (list_checks w l) refl h (Err BadLists))) in
      let y = both _ _ x.0 in
      record { arrivals = eqb-true _ _ y.0; matches = eqb-true _ _ y.1; exhaled = eqb-true _ _ x.1 }

  pub arrivals_passed : (arrivals : List ℕ) → So (is_done (first_of (arrival_checks w arrivals))) → Known w arrivals
  unfolding refuses is_done holds_for same_answer
  arrivals_passed arrivals h i m =
      let n : No (any (λ i. ltb w.ports (first_word arrivals i)) w.ports) = passed (arrival_checks w arrivals) refl h (Err NoSuchOutput) in
      ltb-false w.ports (first_word arrivals i) (to_no (λ x. none→ (λ i. ltb w.ports (first_word arrivals i)) w.ports n i m x))

  pub clock_passed : So (is_done (first_of (clock_checks w))) → w.next.0 ≡ last_slot → ⊥
  unfolding refuses is_done holds_for same_answer
  clock_passed h = eqb-false w.next.0 last_slot (passed (clock_checks w) refl h (Err ClockSpent))

-- An accepted slot passed every group
pub record Accepted (w : Switch) (table : List ℕ) (l : Lists) : Type 0 where
  pub sizes : SizesFit w table
  pub fits : Fit w.ports w.next (cells_of table)
  pub lists : ListsFit w l
  pub known : Known w l.arrivals
  pub clock : w.next.0 ≡ last_slot → ⊥
  pub room : live (cells_of table) + arriving w.ports l.arrivals ≤ length (cells_of table)

module _ (w : Switch) (table : List ℕ) (l : Lists) where
  pub accepted→ : So (is_done (slot_answer w table l)) → Accepted w table l
  unfolding slot_answer refuses is_done
  accepted→ h =
      let s = group_both (size_checks w table) _ refl h in
      let t = group_both (table_checks w table) _ refl s.1 in
      let m = group_both (list_checks w l) _ refl t.1 in
      let a = group_both (arrival_checks w l.arrivals) _ refl m.1 in
      let c = group_both (clock_checks w) _ refl a.1 in
      record {
        sizes = sizes_passed w table s.0;
        fits = table_passed w table t.0;
        lists = lists_passed w l m.0;
        known = arrivals_passed w l.arrivals a.0;
        clock = clock_passed w c.0;
        room = room_passed w table l.arrivals c.1;
      }

  -- an accepted slot is the slot of the rules; a refused one leaves all as found
  pub slot_accepted : So (is_done (slot_answer w table l)) → slot w table l ≡ slot_runs w table l.arrivals
  unfolding slot
  slot_accepted h = cond_true _ (slot_runs w table l.arrivals) (slot_refused (slot_answer w table l) w table l) h

  pub slot_refused_lem : No (is_done (slot_answer w table l)) → slot w table l ≡ slot_refused (slot_answer w table l) w table l
  unfolding slot
  slot_refused_lem h = cond_false _ (slot_runs w table l.arrivals) (slot_refused (slot_answer w table l) w table l) h

  -- and where nothing is refused the answer is done itself
  pub slot_is_done : {a : Answer} → a ≡ slot_answer w table l → So (is_done a) → a ≡ done
  unfolding slot_answer refuses is_done
  slot_is_done = is_done_lem (slot_checks w table l) refl

module _ (w : Switch) (table : List ℕ) where
  pub fresh_accepted : So (is_done (fresh_answer w table)) → fresh_start w table ≡ starts_fresh w table
  unfolding fresh_start
  fresh_accepted h = cond_true _ (starts_fresh w table) (start_refused (fresh_answer w table) w table) h

  pub fresh_refused : No (is_done (fresh_answer w table)) → fresh_start w table ≡ start_refused (fresh_answer w table) w table
  unfolding fresh_start
  fresh_refused h = cond_false _ (starts_fresh w table) (start_refused (fresh_answer w table) w table) h

  pub fresh_is_done : {a : Answer} → a ≡ fresh_answer w table → So (is_done a) → a ≡ done
  unfolding fresh_answer refuses is_done
  fresh_is_done = is_done_lem (fresh_checks w table) refl

-- A fresh start leaves a fit table, with no cell in it
pub fresh-fit : (w : Switch) (table : List ℕ) → Fit w.ports (slot_of 0) (cells_of (starts_fresh w table).table)
fresh-fit w table =
    record {
      each = λ k l. rw (cells_of-zeros (length table) k) (free_sound w.ports (slot_of 0));
      apart = λ j k hj hk wj wk e i. absurd (omega (arith, place≡ (cells_of-zeros (length table) j)));
    }

pub fresh_initial : (w : Switch) (table : List ℕ) → Initial (cells_of (starts_fresh w table).table)
fresh_initial w table = fresh_meets (cells_of (starts_fresh w table).table) (λ k l. cells_of-zeros (length table) k)

-- A slot -----------------------------------------------------------------------------------------

module _ {w : Switch} {table : List ℕ} {l : Lists} (a : Accepted w table l) where
  abbrev arrivals : List ℕ
  arrivals = l.arrivals

  -- the tables at the end of the inhale, after each phase, and at the end
  abbrev pub full : List Cell
  full = entered w arrivals (cells_of table)

  abbrev pub after : ℕ → List Cell
  after j = phases w.ports (readings full) full j

  pub slot_cells : cells_of (slot_runs w table arrivals).table ≡ exhale w.ports (after w.speedup)
  unfolding slot_runs transferred
  slot_cells = cells_of-words_of (exhale w.ports (after w.speedup))
