-- The live records are counted through an inhale, the phases and an exhale, and so through an accepted slot: what arrives is emitted or held.
use Rattle.std.specs.Prelude.{◌≡◌, ◌⊎◌, Bool, List, ℕ, ◌+◌, ◌<◌, length}
use Rattle.std.proofs.Common.{ap, inl, inr, ⊎_elim, arith}
use Rattle.std.proofs.Math.Bool.{So}
use Rattle.laws.specs.Tests.{passes, refuted}
use Rattle.laws.specs.Count.{count, count_apart, count_either}
use Rattle.rules.specs.declared.Switch.{Switch}
use Rattle.rules.specs.declared.Cell.{Cell}
use Rattle.rules.specs.Cells.{nth, cells_of, is_live}
use Rattle.rules.specs.Answers.{Lists, arriving, live}
use Rattle.rules.specs.Phases.{is_emitted, exhale, readings}
use Rattle.rules.specs.Calls.{Outcome, entered, transferred, slot_runs}
use Rattle.rules.specs.Demands.{emits}
use Rattle.ideal.specs.Cells.{live→, →live}
use Rattle.ideal.specs.Phases.{readied_live, match_readied}
use Rattle.ideal.proofs.Inhale.{inhale_total}
use Rattle.ideal.specs.Exhale.{emitted→, length-exhale, exhale_kept, exhale-left}
use Rattle.ideal.proofs.Exhaled.{emitted-count}
use Rattle.ideal.specs.Calls.{Accepted, full, after, slot_cells}
use Rattle.ideal.proofs.Calls.{after-fit}

pub live-exhale : (n : ℕ) (cs : List Cell) → live (exhale n cs) + count (is_emitted n cs) (length cs) ≡ live cs
unfolding live
live-exhale n cs =
    rw (length-exhale n cs)
    (omega (arith, count_apart left lives (is_emitted n cs) (length cs) apart, count_either lives left (is_emitted n cs) (length cs) side))
  where
    lives : ℕ → Bool
    lives k = is_live (nth cs k)

    left : ℕ → Bool
    left k = is_live (nth (exhale n cs) k)

    gone : (k : ℕ) → k < length cs → So (left k) → So (is_emitted n cs k) → ⊥
    gone k l x y = refuted y (exhale-left n cs k l (live→ _ x)).0

    apart : (k : ℕ) → k < length cs → (So (left k) → So (lives k)) × (So (is_emitted n cs k) → So (lives k)) × (So (left k) → So (is_emitted n cs k) → ⊥)
    apart k l = (λ x. rw (exhale-left n cs k l (live→ _ x)).1 at x, λ y. →live _ (omega (arith, (emitted→ n cs k y).ready)), gone k l)

    side : (k : ℕ) → k < length cs → So (lives k) → So (left k) ⊎ So (is_emitted n cs k)
    side k l x = ⊎_elim (λ y. inr y) (λ y. inl (rw (exhale_kept n cs k l y) x)) (passes (is_emitted n cs k))

-- what arrives is emitted or held
pub slot_total : {w : Switch} {table : List ℕ} {l : Lists} → Accepted w table l
    → let u : Outcome = slot_runs w table l.arrivals in
    live (cells_of u.table) + count (emits u.exhaled) w.ports ≡ live (cells_of table) + arriving w.ports l.arrivals
unfolding slot_runs transferred entered
slot_total {w} {table} {l} a =
    omega (
      arith,
      ap live (slot_cells a),
      live-exhale w.ports (after a w.speedup),
      emitted-count (after-fit a w.speedup),
      readied_live (match_readied w.ports (readings (full a)) (full a) w.speedup),
      inhale_total w.ports w.next l.arrivals (cells_of table) a.room,
    )
