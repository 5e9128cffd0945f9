-- An emitted record is shown at its output, and as many outputs show a cell as records are emitted.
use Rattle.std.specs.Prelude.{◌≡◌, List, ℕ, ltb, length}
use Rattle.std.proofs.Common.{subst, arith}
use Rattle.std.proofs.Math.Bool.{So}
use Rattle.laws.specs.Tests.{both}
use Rattle.laws.specs.Count.{count, count_into}
use Rattle.laws.specs.Least.{is_at→}
use Rattle.laws.proofs.Least.{count_onto}
use Rattle.rules.specs.declared.Slot.{Slot}
use Rattle.rules.specs.declared.Cell.{Cell}
use Rattle.rules.specs.Cells.{nth}
use Rattle.rules.specs.Phases.{is_emitted, exhaled}
use Rattle.rules.specs.Demands.{emits, emitted}
use Rattle.ideal.specs.Fit.{Fit}
use Rattle.ideal.specs.Exhale.{OldestReady, oldest_is, emitted→}
use Rattle.ideal.proofs.Meets.{one_each}
use Rattle.ideal.specs.Exhaled.{shows, shown→}

module _ (n : ℕ) (cs : List Cell) where
  -- an emitted record is shown at its output
  pub shown : (k : ℕ) → So (is_emitted n cs k) → So (emits (exhaled n cs) (nth cs k).output.0) × (emitted (exhaled n cs) (nth cs k).output.0 ≡ nth cs k)
  unfolding is_emitted
  shown k h =
      let e = is_at→ k _ (both (ltb (nth cs k).output.0 n) _ h).1 in
      shows n cs (nth cs k).output.0 k (emitted→ n cs k h).output e (subst (OldestReady cs (nth cs k).output) e (oldest_is cs (nth cs k).output))

-- as many outputs show a cell as records are emitted
pub emitted-count : {n : ℕ} {t : Slot} {cs : List Cell} → Fit n t cs → count (emits (exhaled n cs)) n ≡ count (is_emitted n cs) (length cs)
emitted-count {n} {t} {cs} f =
    omega (
      arith,
      count_into (is_emitted n cs) output n (length cs) (emits (exhaled n cs))
          (λ k l x. ((emitted→ n cs k x).output, (shown n cs k x).0)) (λ j k hj hk x y e. one_each f j k x y e),
      count_onto (is_emitted n cs) output (length cs) (emits (exhaled n cs)) n (λ o l x. let k = shown→ n cs o l x in (k.0, k.1, k.2, k.3)),
    )
  where
    output : ℕ → ℕ
    output k = (nth cs k).output.0
