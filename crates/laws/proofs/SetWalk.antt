-- What a walk over ports has found so far, with the next port visited.
use Rattle.std.specs.Prelude.{ℕ, ◌<◌, ◌≡◌, Bool, ◌&&◌, eqb, Option}
use Rattle.std.proofs.Common.{sym, ◌∙◌}
use Rattle.std.proofs.Math.Logic.{inl, inr, ⊎_elim}
use Rattle.laws.specs.Tests.{both, join, either, on_left, on_right}
use Rattle.laws.specs.Order.{Ranks}
use Rattle.laws.specs.First.{First, first_found}
use Rattle.laws.proofs.First.{first_join}
use Rattle.laws.specs.SetWalk.{also, FirstIn}

module _ {test : ℕ → Bool} {port : ℕ → ℕ} {before : ℕ → ℕ → Bool} {n : ℕ} where
  -- what was found among the visited, or what the next one adds
  pub first_visit : {v : ℕ → Bool} {x : Option ℕ} → Ranks before → FirstIn test port before n v x → (p : ℕ) (own : ℕ → Bool)
      → ((k : ℕ) → k < n → own k ≡ (test k && eqb (port k) p)) → (y : Option ℕ) → First own before n y
      → FirstIn test port before n (also v p) (first_found before x y)
  unfolding also
  first_visit {v} {x} w f p own is-own y g = record {
    first =
        first_join before w (λ k. test k && v (port k)) own (λ k. test k && also v p (port k)) n
        (λ k l h. let b = both (test k) _ h in join _ _ b.0 (on_left _ _ b.1))
        (λ k l h. let b = both (test k) _ (sym (is-own k l) ∙ h) in join _ _ b.0 (on_right (v (port k)) _ b.1))
        (λ k l h.
        let b = both (test k) _ h in
        ⊎_elim (λ i. inl (join _ _ b.0 i)) (λ i. inr (is-own k l ∙ join _ _ b.0 i)) (either (v (port k)) _ b.1))
        x y f.first g;
  }
