-- What follows of an inhale: the table stays fit, and each arriving cell has a record of its own, so none is lost.
use Rattle.std.specs.Prelude.{◌≡◌, ℕ, suc, ◌+◌, ◌≤◌, ◌<◌, length}
use Rattle.std.proofs.Common.{arith, eq-zero-or-pos}
use Rattle.std.proofs.Math.Logic.{⊎_elim}
use mathlib.Core.List.{List}
use Rattle.rules.specs.declared.Slot.{Slot}
use Rattle.rules.specs.declared.Cell.{Cell}
use Rattle.rules.specs.Cells.{nth, slot_of}
use Rattle.rules.specs.Answers.{first_word, arriving, live}
use Rattle.rules.specs.Phases.{inhale}
use Rattle.ideal.specs.Fit.{Sound, Fit}
use Rattle.ideal.specs.Inhale.{Inhaled, old_sound, arrival_sound, still_apart, inhale_is}

-- The table stays fit, for the next slot, where every first word names an output
module _ {n : ℕ} {t : Slot} {arrivals : List ℕ} {cs us : List Cell} (h : Inhaled t arrivals n cs us) (f : Fit n t cs)
    (known : (i : ℕ) → i < n → first_word arrivals i ≤ n) where
  each_sound : (k : ℕ) → k < length cs → Sound n (slot_of (suc t.0)) (nth us k)
  each_sound k l =
      ⊎_elim
      (λ z. ⊎_elim (λ y. rw y (old_sound h f known (nth cs k) (f.each k l))) (λ y. rw y.3 (arrival_sound h f known y.0 y.1 y.2)) (h.new k l z))
      (λ w. rw (h.old k l w) (old_sound h f known (nth cs k) (f.each k l)))
      (eq-zero-or-pos (nth cs k).place)

  pub inhaled-fit : Fit n (slot_of (suc t.0)) us
  inhaled-fit = record {
    each = λ k l. each_sound k (omega (arith, h.long));
    apart = λ j k mj mk. still_apart h f known j k (omega (arith, h.long)) (omega (arith, h.long));
  }

-- A slot that is accepted has room for every arriving cell: each gets a record, so none is lost.
module _ (n : ℕ) (t : Slot) (arrivals : List ℕ) (cs : List Cell) (room : live cs + arriving n arrivals ≤ length cs) where
  pub inhale_total : live (inhale n t arrivals cs) ≡ live cs + arriving n arrivals
  unfolding arriving
  inhale_total = (inhale_is n t arrivals cs room).total

  pub inhale-fit : Fit n t cs → ((i : ℕ) → i < n → first_word arrivals i ≤ n) → Fit n (slot_of (suc t.0)) (inhale n t arrivals cs)
  inhale-fit = inhaled-fit (inhale_is n t arrivals cs room)
