-- A slot of any policy, by its tables, in two parts: the inhale; then S phases by one reading and the exhale. With S above the policy's weight the
-- invariant is kept, and at the exhale each waiting cell is led.
-- Assumes nothing.
use Rattle.std.proofs.Common.{sym, ap, ◌∙◌, arith}
use Rattle.std.specs.Prelude.{List, ℕ, zero, suc, ◌≤◌, ◌<◌, length}
use Rattle.rules.specs.declared.Slot.{Slot}
use Rattle.rules.specs.declared.Cell.{Cell}
use Rattle.rules.specs.Cells.{most_ports, last_slot, slot_of, nth}
use Rattle.rules.specs.Phases.{readings, exhale}
use Rattle.ideal.specs.Fit.{Fit}
use Rattle.ideal.specs.Phases.{Readied, readied_fit, phases_by, phases_by_zero, phases_by_suc, phases_readied}
use Rattle.ideal.specs.Inhale.{Inhaled}
use Rattle.ideal.specs.Exhale.{length-exhale}
use Rattle.demands.specs.Ages.{slot_end}
use Rattle.demands.specs.Policy.{Policy}
use Rattle.demands.specs.Ahead.{ready_in, Slack}
use Rattle.demands.specs.Exchange.{Exchange, exchange_keeps}
use Rattle.demands.specs.Phase.{Phase}
use Rattle.demands.proofs.Phase.{phase_gains}
use Rattle.demands.specs.Led.{Led, slack_led}
use Rattle.demands.specs.Steps.{inhale_exchange, reading_is, advance_phase, exhale_exchange}

-- the invariant between slots, and between an inhale and the first phase
abbrev pub Rest : Policy → List Cell → Type 0
Rest q cs = Slack (length cs) q.key q.weight (ready_in (length cs) (nth cs)) (nth cs) 0 0

abbrev pub Laden : Policy → List Cell → Type 0
Laden q us = Slack (length us) q.key q.weight (ready_in (length us) (nth us)) (nth us) 0 q.weight

-- The inhale -------------------------------------------------------------------------------------

-- the table cs of a switch of n ports takes in what arrives in slot t and becomes us
pub record Entry (n : ℕ) (t : Slot) (arrivals : List ℕ) (cs us : List Cell) : Type 0 where
  pub ports : n ≤ most_ports
  pub clock : t.0 < last_slot
  pub fits : Fit n t cs
  pub came : Inhaled t arrivals n cs us
  pub stays_fit : Fit n (slot_of (suc t.0)) us

-- it takes the weight of one cell
pub inhale_laden : (q : Policy) {n : ℕ} {t : Slot} {arrivals : List ℕ} {cs us : List Cell} → Entry n t arrivals cs us → Rest q cs → Laden q us
inhale_laden q h inv =
    let e = inhale_exchange h.came q.weighs h.ports (omega (arith, h.clock)) h.fits h.stays_fit in
    rw h.came.long (exchange_keeps inv e (omega arith) (omega arith))

-- The phases and the exhale ----------------------------------------------------------------------

module _ (q : Policy) {n : ℕ} {t : Slot} {us : List Cell} (ports : n ≤ most_ports) (clock : t.0 ≤ slot_end) (f : Fit n t us) where
  -- the table after j phases
  abbrev pub table_at : ℕ → List Cell
  table_at j = phases_by (λ i. q.pick n (readings us)) us j

  -- the invariant there, for the reading before the first one
  abbrev pub Moving : ℕ → Type 0
  Moving j = Slack (length us) q.key q.weight (ready_in (length us) (nth us)) (nth (table_at j)) j q.weight

  readied : (j : ℕ) → Readied us (table_at j)
  readied j = phases_readied (λ i. q.pick n (readings us)) us (λ i. q.waits n (readings us)) j

  fits_at : (j : ℕ) → Fit n t (table_at j)
  fits_at j = readied_fit (readied j) f

  moves : (j : ℕ) → Phase (length us) q.key (ready_in (length us) (nth us)) (q.pick n (readings us) (table_at j)) (nth (table_at j)) (nth (table_at (suc j)))
  moves j =
      rw (phases_by_suc (λ i. q.pick n (readings us)) us j, sym (readied j).long)
      (advance_phase (ready_in (length (table_at j)) (nth us)) ports clock (fits_at j)
      (λ o m. reading_is us o m ∙ ap (λ (k : ℕ). ready_in k (nth us) o.0) (sym (readied j).long))
      (q.waits n (readings us) (table_at j)) (q.advances (fits_at j) ports (readings us)))

  -- each phase gains 1
  phases_gain : Laden q us → (j : ℕ) → Moving j
  phases_gain inv zero = rw (phases_by_zero (λ i. q.pick n (readings us)) us) inv
  phases_gain inv (suc j) = phase_gains q.weighs (moves j) (phases_gain inv j)

  exhales : (j : ℕ) → Exchange (length us) q.key (nth (table_at j)) (nth (exhale n (table_at j))) 0 1
  exhales j = rw (sym (readied j).long) (exhale_exchange (fits_at j) q.key ports clock)

  module _ (inv : Laden q us) where
    pub slot_leads : {s : ℕ} → 1 ≤ s → Led (length (table_at s)) q.key (nth (table_at s))
    slot_leads {s} some = rw (readied s).long (slack_led (omega arith) (phases_gain inv s))

    -- the exhale takes one of what the phases gained above the weight
    pub slot_rests : {s : ℕ} → q.weight < s → Rest q (exhale n (table_at s))
    slot_rests {s} fast = rw (length-exhale n (table_at s) ∙ (readied s).long) (exchange_keeps (phases_gain inv s) (exhales s) (omega arith) (omega arith))
