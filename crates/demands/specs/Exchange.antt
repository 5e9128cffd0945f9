-- An exchange of cells, an inhale or an exhale: a few come to an input, a few leave an output. It keeps the invariant, for the counts as
-- they then are.
-- Assumes nothing.
use Rattle.std.specs.Prelude.{◌≡◌, ◌⊎◌, ◌≢◌, Bool, not, ◌&&◌, ℕ, ◌+◌, ◌*◌, ◌≤◌, ◌<◌, eqb}
use Rattle.std.proofs.Common.{subst₂, ap, inl, inr, ⊎_elim, arith, mul-le-mul_left}
use Rattle.std.proofs.Math.Bool.{So}
use borrow.Author.Tests.{eqb-true, eq-eqb}
use Rattle.laws.specs.Tests.{No, both, join, passes, refuted, denied, deny}
use Rattle.laws.specs.Count.{count, count_either, count_none, count_mono}
use Rattle.laws.proofs.Least.{largest_key}
use Rattle.rules.specs.declared.Cell.{Cell}
use Rattle.demands.specs.Ages.{age, reach, standing}
use Rattle.demands.specs.Ahead.{ready_in, is_ahead, ahead→, →ahead, is_younger, younger→, Slack}

-- k waits at input i in u, and did not wait in t
unfoldable pub comes : (ℕ → Cell) → (ℕ → Cell) → ℕ → ℕ → Bool
comes t u i k = not (eqb (t k).place 1) && (eqb (u k).place 1 && eqb (u k).input.0 i)

module _ (t u : ℕ → Cell) (i k : ℕ) where
  →comes : No (eqb (t k).place 1) → (u k).place ≡ 1 → (u k).input.0 ≡ i → So (comes t u i k)
  unfolding comes
  →comes x y z = join _ _ (deny _ x) (join _ _ (eq-eqb _ _ y) (eq-eqb _ _ z))

  pub comes→ : So (comes t u i k) → ((t k).place ≢ 1) × ((u k).place ≡ 1) × ((u k).input.0 ≡ i)
  unfolding comes
  comes→ h =
      let a = both _ _ h in
      let b = both _ _ a.1 in
      (λ e. refuted (eq-eqb _ _ e) (denied _ a.0), eqb-true _ _ b.0, eqb-true _ _ b.1)

-- from t to u at most g cells come to an input, and at most e leave an output
pub record Exchange (n : ℕ) (key : Cell → ℕ) (t u : ℕ → Cell) (g e : ℕ) : Type 0 where
  pub stays : (k : ℕ) → k < n → (t k).place ≡ 1 → (u k).place ≡ 1 → u k ≡ t k
  pub ready : (k : ℕ) → k < n → (u k).place ≡ 2 → u k ≡ t k
  pub fresh : (i k j : ℕ) → k < n → j < n → So (comes t u i k) → (u j).place ≡ 2 → key (u j) ≤ key (u k)
  pub few : (i : ℕ) → count (comes t u i) n ≤ g
  pub loses : (o : ℕ) → ready_in n t o ≤ ready_in n u o + e
  pub bounded : (k : ℕ) → k < n → (u k).place ≡ 1 → age (u k) < reach

module _ {n : ℕ} {key : Cell → ℕ} {v : ℕ} {r : ℕ → ℕ} {t u : ℕ → Cell} {a b c g e : ℕ}
    (inv : Slack n key v r t a b) (m : Exchange n key t u g e) (fits : e + b + v * g ≤ a + c) (fits' : v * g ≤ c) where
  module _ (f l : ℕ) (hf : f < n) (hl : l < n) (wl : (u l).place ≡ 1) (hfl : So (is_ahead (ready_in n u) (u l) (u f))) where
    abbrev before_l : Cell → Bool
    before_l x = is_ahead (ready_in n u) (u l) x

    abbrev old : ℕ → Bool
    old k = before_l (u k) && eqb (t k).place 1

    abbrev Goal : Type 0
    Goal = count (λ k. is_younger key (u f) (u k)) n + v * count (λ k. before_l (u k)) n + 0 ≤ ready_in n u (u l).output.0 + c

    -- a cell of u that stands before l is an old one, or comes
    side : (k : ℕ) → k < n → So (before_l (u k)) → So (old k) ⊎ So (comes t u (u l).input.0 k)
    side k i x =
        let h = ahead→ (ready_in n u) (u l) (u k) x in
        ⊎_elim (λ y. inl (join _ _ x y)) (λ y. inr (→comes t u (u l).input.0 k y h.0 h.1)) (passes (eqb (t k).place 1))

    was : (k : ℕ) → k < n → So (old k) → So (before_l (u k)) × ((t k).place ≡ 1) × (u k ≡ t k)
    was k i x =
        let h = both _ _ x in
        let w : (t k).place ≡ 1 = eqb-true _ _ h.1 in
        (h.0, w, m.stays k i w (ahead→ _ _ _ h.0).0)

    -- nothing ready is younger than a cell that comes
    none : So (comes t u (u l).input.0 f) → count (λ k. is_younger key (u f) (u k)) n ≡ 0
    none x = count_none _ n λ k i y. let h = younger→ key (u f) (u k) y in omega (arith, m.fresh _ f k hf i x h.0)

    -- only cells that come stand before l
    all_come : ((k : ℕ) → k < n → So (old k) → ⊥) → Goal
    all_come no' = ⊎_elim (λ y. absurd (no' f hf y)) (λ y. omega (arith, none y, mul-le-mul_left v few')) (side f hf hfl)
      where
        only : (k : ℕ) → k < n → So (before_l (u k)) → So (comes t u (u l).input.0 k)
        only k i x = ⊎_elim (λ y. absurd (no' k i y)) (λ y. y) (side k i x)

        few' : count (λ k. before_l (u k)) n ≤ g
        few' = omega (arith, m.few (u l).input.0, count_mono (λ k. before_l (u k)) (comes t u (u l).input.0) n only)

    -- d is the last, by the old reading, of the old cells before l
    module _ (d : ℕ) (hd : d < n) (od : So (old d)) (last : (j : ℕ) → j < n → So (old j) → standing r (t j) ≤ standing r (t d)) where
      ranked : (k : ℕ) → k < n → So (old k) → So (is_ahead r (t d) (t k))
      ranked k i y =
          let p = was k i y in
          let w = was d hd od in
          let h = ahead→ (ready_in n u) (u l) (u k) p.0 in
          let h' = ahead→ (ready_in n u) (u l) (u d) w.0 in
          →ahead r (t d) (t k) p.1 (cc w.2) (last k i y)

      both_sides : (k : ℕ) → k < n → So (before_l (u k)) → So (is_ahead r (t d) (t k)) ⊎ So (comes t u (u l).input.0 k)
      both_sides k i y = ⊎_elim (λ z. inl (ranked k i z)) (λ z. inr z) (side k i y)

      many : count (λ k. before_l (u k)) n ≤ count (λ k. is_ahead r (t d) (t k)) n + g
      many =
          let i = (u l).input.0 in
          omega (arith, m.few i, count_either (λ k. before_l (u k)) (λ k. is_ahead r (t d) (t k)) (comes t u i) n both_sides)

      lower : ready_in n t (t d).output.0 ≤ ready_in n u (u l).output.0 + e
      lower =
          let w = was d hd od in
          let same = ap (λ (y : Cell). ready_in n u y.output.0) w.2 in
          omega (arith, m.loses (t d).output.0, (ahead→ (ready_in n u) (u l) (u d) w.0).2, m.bounded l hl wl, same)

      -- what is younger than f was so already
      was_younger : So (old f) → (k : ℕ) → k < n → So (is_younger key (u f) (u k)) → So (is_younger key (t f) (t k))
      was_younger y k i z = subst₂ (λ a b. So (is_younger key a b)) (was f hf y).2 (m.ready k i (younger→ key (u f) (u k) z).0) z

      lead : (j : ℕ) × (j < n) × So (is_ahead r (t d) (t j)) × (count (λ k. is_younger key (u f) (u k)) n ≤ count (λ k. is_younger key (t j) (t k)) n)
      lead =
          ⊎_elim
          (λ y. (f, hf, ranked f hf y, count_mono (λ k. is_younger key (u f) (u k)) (λ k. is_younger key (t f) (t k)) n (was_younger y)))
          (λ y. (d, hd, ranked d hd od, omega (arith, none y)))
          (side f hf hfl)

      some_old : Goal
      some_old = let w = was d hd od in omega (arith, lead.3, lower, mul-le-mul_left v many, inv.slack lead.0 d lead.1 hd w.1 lead.2)

    each : Goal
    each = ⊎_elim (λ x. some_old x.0 x.1 x.2 x.3) all_come (largest_key old (λ k. standing r (t k)) n)

  pub exchange_keeps : Slack n key v (ready_in n u) u 0 c
  exchange_keeps = record { slack = each }
