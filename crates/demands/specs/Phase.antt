-- A transfer phase: at most one cell moves to an output, and each waiting cell that is left has a moved one before it. It gains 1 of the
-- invariant's slack (proofs/Phase.antt).
-- Assumes nothing.
use Rattle.std.specs.Prelude.{◌≡◌, ◌⊎◌, ◌&&◌, eqb}
use Rattle.std.proofs.Math.Path.{refl, ap}
use Rattle.std.proofs.Common.{arith, eqb-true, eq-eqb}
use Rattle.std.proofs.Math.Logic.{inl, inr, ⊎_elim}
use Rattle.std.proofs.Math.Bool.{Bool, So}
use Prim.Native.Nat.{ℕ, suc, ◌+◌, ◌*◌, ◌≤◌, ◌<◌}
use Rattle.std.proofs.Math.Nat.{mul-le-mul_left}
use Rattle.laws.specs.Tests.{No, both, join, passes, refuted}
use Rattle.laws.specs.Count.{count, count_either, count_none, count_one, count_mono, count_more, find}
use Rattle.rules.specs.declared.Cell.{Cell}
use Rattle.rules.specs.Cells.{output_of, placed, is_ready_for}
use Rattle.ideal.specs.Cells.{place≡, ready_for→, →ready_for}
use Rattle.demands.specs.Ages.{standing}
use Rattle.demands.specs.Policy.{Weighs}
use Rattle.demands.specs.Ahead.{ready_in, is_ahead, ahead→, →ahead, is_younger, younger→, Slack}

-- the cells of m move from t to u
pub record Phase (n : ℕ) (key : Cell → ℕ) (r : ℕ → ℕ) (m : ℕ → Bool) (t u : ℕ → Cell) : Type 0 where
  pub waits : (k : ℕ) → k < n → So (m k) → (t k).place ≡ 1
  pub moved : (k : ℕ) → k < n → So (m k) → u k ≡ placed 2 (t k)
  pub kept : (k : ℕ) → k < n → No (m k) → u k ≡ t k
  pub outputs : (j k : ℕ) → j < n → k < n → So (m j) → So (m k) → (t j).output.0 ≡ (t k).output.0 → j ≡ k
  pub blocked : (k : ℕ) → k < n → (t k).place ≡ 1 → No (m k)
      → (d : ℕ) × (d < n) × So (m d)
      × ((((t d).input.0 ≡ (t k).input.0) × (standing r (t d) ≤ standing r (t k))) ⊎ (((t d).output.0 ≡ (t k).output.0) × (key (t d) ≤ key (t k))))

module _ {n : ℕ} {key : Cell → ℕ} {v : ℕ} {r : ℕ → ℕ} {m : ℕ → Bool} {t u : ℕ → Cell} {a b : ℕ}
    (law : Weighs key v) (p : Phase n key r m t u) (inv : Slack n key v r t a b) where
  pub unmoved : (k : ℕ) → k < n → (u k).place ≡ 1 → No (m k)
  unmoved k i w = ⊎_elim (λ x. absurd (omega (arith, place≡ (p.moved k i x)))) (λ x. x) (passes (m k))

  -- the cells that are left
  stay : (y : Cell) (k : ℕ) → k < n → So (is_ahead r y (u k)) → So (is_ahead r y (t k))
  stay y k i x = rw (p.kept k i (unmoved k i (ahead→ r y (u k) x).0)) at x

  -- the cells that were ready
  grow : (o k : ℕ) → k < n → So (is_ready_for (output_of o) (t k)) → So (is_ready_for (output_of o) (u k))
  grow o k i x = ⊎_elim (λ y. absurd (omega (arith, p.waits k i y, (ready_for→ (output_of o) (t k) x).0))) (λ y. rw (p.kept k i y) x) (passes (m k))

  -- what became younger than f has moved to its output
  Enters : Cell → ℕ → Type 0
  Enters f k = So (m k) × ((t k).output.0 ≡ f.output.0) × (key f < key (t k))

  enter : (f : Cell) (k : ℕ) → k < n → So (is_younger key f (u k)) → So (is_younger key f (t k)) ⊎ Enters f k
  unfolding Enters
  enter f k i x = ⊎_elim (λ y. inr (go y)) (λ y. inl (rw (p.kept k i y) at x)) (passes (m k))
    where
      go : So (m k) → Enters f k
      go y = let h = younger→ key f (placed 2 (t k)) (rw (p.moved k i y) at x) in (y, h.1, omega (arith, law.later (placed 2 (t k)) (t k) (omega arith)))

  one_more : (f : Cell) → count (λ k. is_younger key f (u k)) n + 1 ≤ count (λ k. is_younger key f (t k)) n + v
  unfolding Enters
  one_more f =
      ⊎_elim
      (λ y.
      let two = law.two f (u y.0) (younger→ key f (u y.0) y.2).2 in
      omega (arith, two, count_either younger_after younger_before moves_there n side, count_one moves_there n single))
      (λ h. omega (arith, count_none younger_after n h, law.one))
      (find younger_after n)
    where
      younger_after : ℕ → Bool
      younger_after k = is_younger key f (u k)

      younger_before : ℕ → Bool
      younger_before k = is_younger key f (t k)

      moves_there : ℕ → Bool
      moves_there k = m k && eqb (t k).output.0 f.output.0

      side : (k : ℕ) → k < n → So (younger_after k) → So (younger_before k) ⊎ So (moves_there k)
      side k i x = ⊎_elim (λ z. inl z) (λ z. inr (join _ _ z.0 (eq-eqb _ _ z.1))) (enter f k i x)

      single : (j k : ℕ) → j < n → k < n → So (moves_there j) → So (moves_there k) → j ≡ k
      single j k hj hk x y =
          let x' = both _ _ x in
          let y' = both _ _ y in
          p.outputs j k hj hk x'.0 y'.0 (omega (arith, eqb-true))

  module _ (f l : ℕ) (hf : f < n) (hl : l < n) (nf : No (m f)) (nl : No (m l)) (wl : (t l).place ≡ 1) (hfl : So (is_ahead r (t l) (t f))) where
    abbrev pub Goal : Type 0
    Goal = count (λ k. is_younger key (t f) (u k)) n + v * count (λ k. is_ahead r (t l) (u k)) n + suc a ≤ ready_in n u (t l).output.0 + b

    abbrev pub gone : ℕ → Bool
    gone k = m k && is_ahead r (t l) (t k)

    abbrev out : ℕ
    out = (t l).output.0

    -- the cells before l, and the ready ones for its output, before the phase and after it
    ahead_before : ℕ → Bool
    ahead_before k = is_ahead r (t l) (t k)

    ahead_after : ℕ → Bool
    ahead_after k = is_ahead r (t l) (u k)

    ready-before : ℕ → Bool
    ready-before k = is_ready_for (output_of out) (t k)

    ready-after : ℕ → Bool
    ready-after k = is_ready_for (output_of out) (u k)

    -- a cell moved that stands before l at its input
    pub from_input : (k : ℕ) × (k < n) × So (gone k) → Goal
    unfolding ahead_before ahead_after ready-before ready-after
    from_input x =
        let d = x.0 in
        let g = both _ _ x.2 in
        let left = count_more ahead_after ahead_before n (stay (t l)) d x.1 g.1 (λ z. refuted g.0 (unmoved d x.1 (ahead→ r (t l) (u d) z).0)) in
        omega (arith, inv.slack f l hf hl wl hfl, one_more (t f), mul-le-mul_left v left, count_mono ready-before ready-after n (grow out))

    -- none did: then what is before l or f is a moved cell for its own output
    module _ (h : (k : ℕ) → k < n → So (gone k) → ⊥) where
      abbrev Exit : ℕ → Type 0
      Exit k = (d : ℕ) × (d < n) × So (m d) × ((t d).output.0 ≡ (t k).output.0) × (key (t d) ≤ key (t k))

      exit : (k : ℕ) → k < n → So (is_ahead r (t l) (t k)) → No (m k) → Exit k
      exit k i x y =
          let a = ahead→ r (t l) (t k) x in
          let q = p.blocked k i a.0 y in
          ⊎_elim
          (λ z. absurd (h q.0 q.1 (join _ _ q.2 (→ahead r (t l) (t q.0) (p.waits q.0 q.1 q.2) (omega arith) (omega arith)))))
          (λ z. (q.0, q.1, q.2, z.0, z.1))
          q.3

      old : Exit f → (k : ℕ) → k < n → So (is_younger key (t f) (u k)) → So (is_younger key (t f) (t k))
      unfolding Enters
      old q k i x =
          ⊎_elim (λ z. z)
          (λ z. absurd (omega (arith, ap (λ j. key (t j)) (p.outputs k q.0 i q.1 z.0 q.2 (omega arith)))))
          (enter (t f) k i x)

      -- one more is ready for l's output
      more : count ready-before n + 1 ≤ count ready-after n
      unfolding ready-before ready-after
      more =
          let d = exit l hl (→ahead r (t l) (t l) wl refl (omega arith)) nl in
          count_more ready-before ready-after n (grow out) d.0 d.1
          (rw (p.moved d.0 d.1 d.2) (→ready_for (output_of out) (placed 2 (t d.0)) refl d.3))
          (λ z. omega (arith, (ready_for→ (output_of out) (t d.0) z).0, p.waits d.0 d.1 d.2))

      pub from_output : Goal
      unfolding ahead_before ahead_after ready-before ready-after
      from_output =
          let left = count_mono ahead_after ahead_before n (stay (t l)) in
          let none = count_mono (λ k. is_younger key (t f) (u k)) (λ k. is_younger key (t f) (t k)) n (old (exit f hf hfl nf)) in
          omega (arith, inv.slack f l hf hl wl hfl, more, mul-le-mul_left v left, none)
