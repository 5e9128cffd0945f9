-- Each waiting cell is led: a ready one for its output has no higher key. The invariant says so where the phases have gained more slack than the
-- inhale took.
-- Assumes nothing.
use Rattle.std.specs.Prelude.{◌≡◌, refl, ℕ, ◌+◌, ◌≤◌, ◌<◌}
use Rattle.std.proofs.Math.Bool.{So}
use Rattle.std.proofs.Common.{arith, mul-le-mul_left}
use Rattle.laws.specs.Tests.{No}
use Rattle.laws.specs.Count.{count_hit, count_extra}
use Rattle.rules.specs.declared.Cell.{Cell}
use Rattle.rules.specs.Cells.{is_ready_for}
use Rattle.ideal.specs.Cells.{ready_for→}
use Rattle.demands.specs.Ahead.{is_ahead, →ahead, is_younger, not_younger, Slack}

-- a record with a ready cell for f's output, which has no higher key than f
pub record Leader (n : ℕ) (key : Cell → ℕ) (t : ℕ → Cell) (f : Cell) : Type 0 where
  pub number : ℕ
  pub below : number < n
  pub ready : (t number).place ≡ 2
  pub output : (t number).output.0 ≡ f.output.0
  pub first : key (t number) ≤ key f

pub record Led (n : ℕ) (key : Cell → ℕ) (t : ℕ → Cell) : Type 0 where
  pub led : (f : ℕ) → f < n → (t f).place ≡ 1 → Leader n key t (t f)

pub slack_led : {n : ℕ} {key : Cell → ℕ} {v : ℕ} {r : ℕ → ℕ} {t : ℕ → Cell} {a b : ℕ} → b < v + a → Slack n key v r t a b → Led n key t
slack_led {n} {key} {v} {r} {t} {a} {b} more inv = record { led = each }
  where
    self : (f : ℕ) → (t f).place ≡ 1 → So (is_ahead r (t f) (t f))
    self f w = →ahead r (t f) (t f) w refl (omega arith)

    one : (f : Cell) → (d : ℕ) × (d < n) × So (is_ready_for f.output (t d)) × No (is_younger key f (t d)) → Leader n key t f
    one f x =
        let h = ready_for→ f.output (t x.0) x.2 in
        record { number = x.0; below = x.1; ready = h.0; output = h.1; first = not_younger key f (t x.0) h.0 h.1 x.3 }

    -- fewer ready cells are younger than f than are ready for its output
    each : (f : ℕ) → f < n → (t f).place ≡ 1 → Leader n key t (t f)
    each f i w =
        let own = mul-le-mul_left v (count_hit (λ k. is_ahead r (t f) (t k)) n f i (self f w)) in
        one (t f)
        (count_extra (λ k. is_younger key (t f) (t k)) (λ k. is_ready_for (t f).output (t k)) n
        (omega (arith, inv.slack f f i i w (self f w), own)))
