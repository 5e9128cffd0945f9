-- A phase gains 1 of the invariant's slack.
use Rattle.std.specs.Prelude.{◌≡◌}
use Rattle.std.proofs.Common.{subst₂}
use Rattle.std.proofs.Math.Logic.{⊎_elim}
use Rattle.std.proofs.Math.Bool.{Bool, So}
use Prim.Native.Nat.{ℕ, suc, ◌+◌, ◌*◌, ◌≤◌, ◌<◌}
use Rattle.laws.specs.Tests.{No}
use Rattle.laws.specs.Count.{count, find}
use Rattle.rules.specs.declared.Cell.{Cell}
use Rattle.demands.specs.Policy.{Weighs}
use Rattle.demands.specs.Ahead.{ready_in, is_ahead, ahead→, is_younger, Slack}
use Rattle.demands.specs.Phase.{Phase, unmoved, Goal, gone, from_input, from_output}

module _ {n : ℕ} {key : Cell → ℕ} {v : ℕ} {r : ℕ → ℕ} {m : ℕ → Bool} {t u : ℕ → Cell} {a b : ℕ}
    (law : Weighs key v) (p : Phase n key r m t u) (inv : Slack n key v r t a b) where
  module _ (f l : ℕ) (hf : f < n) (hl : l < n) (nf : No (m f)) (nl : No (m l)) (wl : (t l).place ≡ 1) (hfl : So (is_ahead r (t l) (t f))) where
    gains : (Goal law p inv f l hf hl nf nl wl hfl)
    gains = ⊎_elim (from_input law p inv f l hf hl nf nl wl hfl) (from_output law p inv f l hf hl nf nl wl hfl) (find (gone law p inv f l hf hl nf nl wl hfl) n)

  pub phase_gains : Slack n key v r u (suc a) b
  phase_gains = record { slack = each }
    where
      each : (f l : ℕ) → f < n → l < n → (u l).place ≡ 1 → So (is_ahead r (u l) (u f))
          → count (λ k. is_younger key (u f) (u k)) n + v * count (λ k. is_ahead r (u l) (u k)) n + suc a ≤ ready_in n u (u l).output.0 + b
      each f l hf hl wl hfl =
          let nf = unmoved law p inv f hf (ahead→ r (u l) (u f) hfl).0 in
          let nl = unmoved law p inv l hl wl in
          let ef : u f ≡ t f = p.kept f hf nf in
          let el : u l ≡ t l = p.kept l hl nl in
          rw (ef, el) (gains f l hf hl nf nl (rw el at wl) (subst₂ (λ x y. So (is_ahead r x y)) el ef hfl))
