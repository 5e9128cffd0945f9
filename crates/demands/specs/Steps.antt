-- Document 01's inhale, transfer phase and exhale are steps of the invariant: a turn in which one cell may come to an input, a phase, and a
-- turn in which one cell may leave an output.
-- Assumes nothing.
use Rattle.std.specs.Prelude.{◌≡◌, ◌⊎◌, Bool, ◌&&◌, List, ℕ, suc, ◌+◌, ◌≤◌, ◌<◌, eqb, length}
use Rattle.std.proofs.Common.{sym, ◌∙◌, inl, inr, ⊎_elim, arith, eqb-true, eq-eqb}
use Rattle.std.proofs.Math.Bool.{So}
use Rattle.laws.specs.Tests.{No, both, join, passes}
use Rattle.laws.specs.Count.{count, count_either, count_none, count_one, count_mono}
use Rattle.laws.specs.Lists.{get_or-tabulate}
use Rattle.rules.specs.declared.Output.{Output}
use Rattle.rules.specs.declared.Slot.{Slot}
use Rattle.rules.specs.declared.Cell.{Cell}
use Rattle.rules.specs.Cells.{most_ports, slot_of, output_of, nth, is_ready_for, reading_for, before}
use Rattle.rules.specs.Phases.{ready_count, readings, moved, is_emitted, exhale}
use Rattle.ideal.specs.Cells.{place≡, waiting→, ready_for→}
use Rattle.ideal.specs.Fit.{Fit}
use Rattle.ideal.specs.Phases.{moved_yes, moved_no, Picks}
use Rattle.ideal.specs.Inhale.{Inhaled, inhaled_was}
use Rattle.ideal.specs.Exhale.{exhale_kept, exhale-left}
use Rattle.ideal.proofs.Meets.{one_each}
use Rattle.demands.specs.Ages.{age, slot_end, reach, standing, aged, age_below, age_later, before→}
use Rattle.demands.specs.Ahead.{ready_in}
use Rattle.demands.specs.Exchange.{comes, comes→, Exchange}
use Rattle.demands.specs.Phase.{Phase}
use Rattle.demands.specs.Policy.{Weighs, Advances}

-- on a fit table, ages are below the reach
pub bounded : {n : ℕ} {t : Slot} {cs : List Cell} → Fit n t cs → n ≤ most_ports → t.0 ≤ slot_end → (k : ℕ) → k < length cs → 1 ≤ (nth cs k).place
    → age (nth cs k) < reach
bounded f ports clock k l w = age_below (aged ports (f.each k l) w) (omega (arith, (f.each k l).entered w))

-- Inhale -----------------------------------------------------------------------------------------

module _ {n : ℕ} {t : Slot} {arrivals : List ℕ} {cs us : List Cell} (h : Inhaled t arrivals n cs us) where
  come : (i k : ℕ) → k < length cs → So (comes (nth cs) (nth us) i k)
      → ((nth cs k).place ≡ 0) × ((nth us k).entered.0 ≡ t.0) × ((nth us k).place ≡ 1) × ((nth us k).input.0 ≡ i)
  come i k l c =
      let a = comes→ (nth cs) (nth us) i k c in
      ⊎_elim (λ y. absurd (a.0 (rw y.1 at a.1))) (λ y. (y.0, y.1, y.2, a.2)) (inhaled_was h k l (omega (arith, a.1)))

  was_ready : (k : ℕ) → k < length cs → (nth us k).place ≡ 2 → (1 ≤ (nth cs k).place) × (nth us k ≡ nth cs k)
  was_ready k l w = ⊎_elim (λ y. y) (λ y. absurd (omega (arith, y.2))) (inhaled_was h k l (omega arith))

  pub inhale_exchange : {key : Cell → ℕ} {v : ℕ} → Weighs key v → n ≤ most_ports → t.0 < slot_end → Fit n t cs → Fit n (slot_of (suc t.0)) us
      → Exchange (length cs) key (nth cs) (nth us) 1 0
  inhale_exchange law ports clock f g =
      record {
        stays = λ k l w w'. h.old k l (omega arith);
        ready = λ k l w. (was_ready k l w).1;
        fresh = λ i k j hk hj c w. law.later (nth us j) (nth us k) (later i k j hk hj c w);
        few = λ i. count_one (comes (nth cs) (nth us) i) (length cs) (single i);
        loses = λ o. omega (arith, count_mono (λ k. is_ready_for (output_of o) (nth cs k)) (λ k. is_ready_for (output_of o) (nth us k)) (length cs) (still_ready o));
        bounded = λ k l w. bounded g ports clock k (omega (arith, h.long)) (omega arith);
      }
    where
      still_ready : (o k : ℕ) → k < length cs → So (is_ready_for (output_of o) (nth cs k)) → So (is_ready_for (output_of o) (nth us k))
      still_ready o k l x = rw (h.old k l (omega (arith, (ready_for→ (output_of o) (nth cs k) x).0))) x

      later : (i k j : ℕ) → k < length cs → j < length cs → So (comes (nth cs) (nth us) i k) → (nth us j).place ≡ 2 → age (nth us j) ≤ age (nth us k)
      later i k j hk hj c w =
          let a = was_ready j hj w in
          let e = (f.each j hj).entered a.0 in
          rw a.1 (age_later (nth us k) (aged ports (f.each j hj) a.0) (omega (arith, (come i k hk c).1)))

      single : (i j k : ℕ) → j < length cs → k < length cs → So (comes (nth cs) (nth us) i j) → So (comes (nth cs) (nth us) i k) → j ≡ k
      single i j k hj hk a b =
          let x = come i j hj a in
          let y = come i k hk b in
          h.once j k hj hk x.0 y.0 (omega (arith, x.2)) (omega (arith, y.2)) (x.3 ∙ sym y.3)

-- Phase ------------------------------------------------------------------------------------------

-- the reading is the count
pub reading_is : (cs : List Cell) (o : Output) → o.0 < most_ports → reading_for (readings cs) o ≡ ready_in (length cs) (nth cs) o.0
unfolding reading_for readings ready_count
reading_is cs o l = get_or-tabulate (λ o. ready_count cs (output_of o)) most_ports 0 o.0 l

module _ {n : ℕ} {t : Slot} {cs : List Cell} {key : Cell → ℕ} {rs : List ℕ} {m : ℕ → Bool} (r : ℕ → ℕ) (ports : n ≤ most_ports) (clock : t.0 ≤ slot_end)
    (f : Fit n t cs) (read : (o : Output) → o.0 < most_ports → reading_for rs o ≡ r o.0) (p : Picks cs m) (a : Advances key rs cs m) where
  -- what stands before a cell by the reading has the lower standing
  ranked : (d k : ℕ) → d < length cs → k < length cs → (nth cs d).place ≡ 1 → (nth cs k).place ≡ 1
      → So (before rs (nth cs d) (nth cs k)) → standing r (nth cs d) < standing r (nth cs k)
  ranked d k hd hk wd wk h =
      let x = f.each d hd in
      let y = f.each k hk in
      let ld : 1 ≤ (nth cs d).place = omega arith in
      let lk : 1 ≤ (nth cs k).place = omega arith in
      before→ rs r (nth cs d) (nth cs k) (aged ports x ld) (aged ports y lk) (omega (arith, x.entered ld)) (omega (arith, y.entered lk))
      (read (nth cs d).output (omega (arith, x.output ld))) (read (nth cs k).output (omega (arith, y.output lk))) h

  waits : (k : ℕ) → k < length cs → So (m k) → (nth cs k).place ≡ 1
  waits k l x = waiting→ _ (p.waits k l x)

  blocked : (k : ℕ) → k < length cs → (nth cs k).place ≡ 1 → No (m k) → (d : ℕ) × (d < length cs) × So (m d)
      × ((((nth cs d).input.0 ≡ (nth cs k).input.0) × (standing r (nth cs d) ≤ standing r (nth cs k)))
      ⊎ (((nth cs d).output.0 ≡ (nth cs k).output.0) × (key (nth cs d) ≤ key (nth cs k))))
  blocked k l w x =
      let d = a.blocked k l w x in
      (d.0, d.1, d.2, ⊎_elim (λ e. inl (e.0, omega (arith, ranked d.0 k d.1 l (waits d.0 d.1 d.2) w e.1))) (λ e. inr e) d.3)

  pub advance_phase : Phase (length cs) key r m (nth cs) (nth (moved m cs))
  advance_phase = record { waits = waits; moved = moved_yes m cs; kept = moved_no m cs; outputs = a.outputs; blocked = blocked }

-- Exhale -----------------------------------------------------------------------------------------

module _ {n : ℕ} {t : Slot} {cs : List Cell} (f : Fit n t cs) where
  -- of the cells for one output an exhale takes one at most
  pub takes_one : (p : Cell → Bool) (o : ℕ) → ((c : Cell) → So (p c) → c.output.0 ≡ o)
      → count (λ k. p (nth cs k)) (length cs) ≤ count (λ k. p (nth (exhale n cs) k)) (length cs) + 1
  takes_one p o own =
      omega (arith, count_either (λ k. p (nth cs k)) (λ k. p (nth (exhale n cs) k)) leaves (length cs) side, count_one leaves (length cs) single)
    where
      leaves : ℕ → Bool
      leaves k = is_emitted n cs k && eqb (nth cs k).output.0 o

      side : (k : ℕ) → k < length cs → So (p (nth cs k)) → So (p (nth (exhale n cs) k)) ⊎ So (leaves k)
      side k l x = ⊎_elim (λ y. inr (join _ _ y (eq-eqb _ _ (own (nth cs k) x)))) (λ y. inl (rw (exhale_kept n cs k l y) x)) (passes (is_emitted n cs k))

      single : (j k : ℕ) → j < length cs → k < length cs → So (leaves j) → So (leaves k) → j ≡ k
      single j k hj hk a b =
          let x = both _ _ a in
          let y = both _ _ b in
          one_each f j k x.0 y.0 (eqb-true _ _ x.1 ∙ sym (eqb-true _ _ y.1))

  pub exhale_exchange : (key : Cell → ℕ) → n ≤ most_ports → t.0 ≤ slot_end → Exchange (length cs) key (nth cs) (nth (exhale n cs)) 0 1
  exhale_exchange key ports clock =
      record {
        stays = λ k l w w'. (exhale-left n cs k l (omega arith)).1;
        ready = λ k l w. (exhale-left n cs k l (omega arith)).1;
        fresh = λ i k j hk hj c w. absurd (none_come i k hk c);
        few = λ i. omega (arith, count_none (comes (nth cs) (nth (exhale n cs)) i) (length cs) (none_come i));
        loses = λ o. takes_one (is_ready_for (output_of o)) o (λ c x. (ready_for→ (output_of o) c x).1);
        bounded = λ k l w. let s = (exhale-left n cs k l (omega arith)).1 in rw s (bounded f ports clock k l (omega (arith, place≡ s)));
      }
    where
      none_come : (i k : ℕ) → k < length cs → So (comes (nth cs) (nth (exhale n cs)) i k) → ⊥
      none_come i k l c = let a = comes→ (nth cs) (nth (exhale n cs)) i k c in a.0 (rw (exhale-left n cs k l (omega (arith, a.1))).1 at a.1)
