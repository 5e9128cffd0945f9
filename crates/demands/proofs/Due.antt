-- An exhale shows a cell exactly when it is due.
use Rattle.std.specs.Prelude.{◌≡◌, refl, List, ℕ, zero, suc, ◌≤◌, length}
use Rattle.std.proofs.Common.{inl, inr, arith}
use Rattle.rules.specs.declared.Switch.{Switch}
use Rattle.rules.specs.declared.Slot.{Slot}
use Rattle.rules.specs.declared.Cell.{Cell}
use Rattle.rules.specs.Cells.{most_ports, nth}
use Rattle.rules.specs.Phases.{exhale, exhaled}
use Rattle.rules.specs.Demands.{elders, Leaves}
use Rattle.ideal.specs.Fit.{Fit}
use Rattle.demands.specs.Ages.{age}
use Rattle.demands.specs.Led.{Led}
use Rattle.demands.specs.Elders.{no_elders, leaves_now, stays_behind, one_fewer}
use Rattle.demands.specs.Due.{Due, Departs, gone-exhale, first-exhale, later_exhale}

pub due_exhale : (w : Switch) {t : Slot} {cs : List Cell} → w.ports ≤ most_ports → Fit w.ports t cs → Led (length cs) age (nth cs) → {c : Cell} {s : ℕ}
    → Due c s w.next.0 cs → Leaves c s w (exhaled w.ports cs) × Due c s (suc w.next.0) (exhale w.ports cs)
due_exhale w {t} {cs} ports f led {c} {s} (inr g) = gone-exhale w f c s g.0 g.1
due_exhale w {t} {cs} ports f led {c} {s} (inl q) = go (elders cs c) refl
  where
    go : (e : ℕ) → elders cs c ≡ e → Departs w cs c s
    go zero z =
        first-exhale w f c q.below q.stays s (omega (arith, z, q.turn))
        (leaves_now ports f led q.below q.stays (λ k l v x. no_elders cs c z k l x))
    go (suc e) z =
        later_exhale w f c q.below q.stays s e (omega (arith, z, q.turn))
        (stays_behind ports f led q.below q.stays e z) (one_fewer ports f led q.below q.stays e z)
