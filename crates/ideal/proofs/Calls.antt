-- What an accepted slot leaves: fit tables throughout, a slot of the published model, and no two cells alike.
use Rattle.std.specs.Prelude.{List, ℕ, suc}
use Rattle.laws.specs.Walk.{over}
use Rattle.rules.specs.declared.Switch.{Switch}
use Rattle.rules.specs.Cells.{slot_of, nth, cells_of}
use Rattle.rules.specs.Answers.{Lists}
use Rattle.rules.specs.Phases.{readings, match_of, phases, is_emitted}
use Rattle.rules.specs.Calls.{entered, slot_runs}
use Rattle.rules.specs.Model.{among, arrived, Slotted}
use Rattle.ideal.specs.Cells.{live→, same_refl}
use Rattle.ideal.specs.Fit.{Fit}
use Rattle.ideal.specs.Match.{match_is}
use Rattle.ideal.specs.Phases.{phases_suc, phases-fit}
use Rattle.ideal.specs.Inhale.{inhale_is}
use Rattle.ideal.proofs.Inhale.{inhale-fit}
use Rattle.ideal.specs.Exhale.{exhale-fit}
use Rattle.ideal.specs.Meets.{fit_single, inhale_meets, transfer_meets}
use Rattle.ideal.proofs.Meets.{exhale_meets}
use Rattle.ideal.specs.Only.{Distinct, fit_distinct}
use Rattle.ideal.specs.Calls.{Accepted, full, after, slot_cells}

module _ {w : Switch} {table : List ℕ} {l : Lists} (a : Accepted w table l) where
  pub entered-fit : Fit w.ports (slot_of (suc w.next.0)) (full a)
  unfolding entered
  entered-fit = inhale-fit w.ports w.next l.arrivals (cells_of table) a.room a.fits a.known

  pub after-fit : (j : ℕ) → Fit w.ports (slot_of (suc w.next.0)) ((after a) j)
  after-fit j = phases-fit entered-fit (readings (full a)) j

  -- an accepted slot leaves a fit table for the next slot number
  pub slot-fit : Fit w.ports (slot_of (suc w.next.0)) (cells_of (slot_runs w table l.arrivals).table)
  slot-fit = rw (slot_cells a) (exhale-fit (after-fit w.speedup))

  -- and it is a slot of the published model, from the cells that arrive to the cells that leave
  pub slot_meets : Slotted w.speedup w.next (arrived w.ports w.next l.arrivals) (λ j. among (match_of w.ports (readings (full a)) ((after a) j)) ((after a) j))
      (among (is_emitted w.ports ((after a) w.speedup)) ((after a) w.speedup)) (cells_of table) (after a) (cells_of (slot_runs w table l.arrivals).table)
  unfolding phases over entered
  slot_meets =
      record {
        inhales = inhale_meets w.ports w.next l.arrivals (cells_of table) (full a) (inhale_is w.ports w.next l.arrivals (cells_of table) a.room);
        single = λ j k hj hk wj wk s. fit_single entered-fit (nth (full a) k) j k hj hk (live→ _ wj) (live→ _ wk) s (same_refl (nth (full a) k));
        transfers = λ j m. rw (phases_suc w.ports (readings (full a)) (full a) j) (transfer_meets (after-fit j) (match_is (after-fit j) (readings (full a))));
        exhales = rw (slot_cells a) (exhale_meets (after-fit w.speedup));
      }

  -- nothing in it is told apart by less than slot and input, so that the model's slot is this one only (Only.antt)
  pub slot_distinct : Distinct ((after a) w.speedup)
  slot_distinct = fit_distinct (after-fit w.speedup)
