-- Bits of numbers: an or that is 0, of two numbers and of a list, and an and that is.
-- Assumes nothing.
use Prim.Native.Nat.{ℕ, zero, suc, ◌+◌, ◌<◌}
use Rattle.std.proofs.Math.Path.{◌≡◌, refl}
use Rattle.std.proofs.Common.{sym, ap, ◌∙◌, arith}
use Rattle.std.specs.Prelude.{List, [], ◌∷◌, length, get_or}
use Rattle.std.specs.List.{fold}
use Rattle.std.specs.Int.Bits.{bit_or, or_add_and, or_zero_l, bit_and, and_self}
use Rattle.std.proofs.lemmas.Nat.{and_le_l, and_le_r}
use Rattle.laws.specs.Walk.{over, over_more, below_suc}

pub or_none : (a b : ℕ) → bit_or a b ≡ 0 → (a ≡ 0) × (b ≡ 0)
or_none a b e = (omega (arith, or_add_and a b, and_le_r a b), omega (arith, or_add_and a b, and_le_l a b))

-- a number that has none of another's bits is not that one
pub and_none : (a b : ℕ) → 0 < b → bit_and a b ≡ 0 → a ≡ b → ⊥
and_none a b l h e = omega (arith, sym (and_self b) ∙ ap (λ (x : ℕ). bit_and x b) (sym e) ∙ h)

-- The or of the first n words of a list: 0 just where each of them is.
unfoldable pub or_to : List ℕ → ℕ → ℕ
or_to ws n = over (λ i all. bit_or all (get_or ws i 0)) 0 n

module _ (ws : List ℕ) where
  pub or_to_more : (n : ℕ) → or_to ws (n + 1) ≡ bit_or (or_to ws n) (get_or ws n 0)
  unfolding or_to
  or_to_more n = over_more (λ i all. bit_or all (get_or ws i 0)) 0 n

  pub or_to-none : (n : ℕ) → or_to ws n ≡ 0 → (i : ℕ) → i < n → ◌≡◌ {A = ℕ} (get_or ws i 0) 0
  unfolding or_to over
  or_to-none zero e i l = absurd (omega arith)
  or_to-none (suc n) e i l = let z = or_none (or_to ws n) (get_or ws n 0) e in below_suc (λ i. ◌≡◌ {A = ℕ} (get_or ws i 0) 0) n (or_to-none n z.0) z.1 i l

  pub none-or_to : (n : ℕ) → ((i : ℕ) → i < n → ◌≡◌ {A = ℕ} (get_or ws i 0) 0) → or_to ws n ≡ 0
  unfolding or_to over
  none-or_to zero h = refl
  none-or_to (suc n) h = rw (none-or_to n (λ i l. h i (omega arith)), h n (omega arith)) (or_zero_l 0)

-- The or of all words of a list, from a on: 0 just where a and each of them is.
pub fold_none : (ws : List ℕ) (a : ℕ) → fold bit_or a ws ≡ 0 → (a ≡ 0) × ((i : ℕ) → i < length ws → ◌≡◌ {A = ℕ} (get_or ws i 0) 0)
fold_none [] a e = (e, λ i l. absurd (omega arith))
fold_none (w ∷ ws) a e =
    let h = fold_none ws (bit_or a w) e in
    let z = or_none a w h.0 in
    (z.0, each z.1 h.1)
  where
    each : w ≡ 0 → ((i : ℕ) → i < length ws → ◌≡◌ {A = ℕ} (get_or ws i 0) 0) → (i : ℕ) → i < length (w ∷ ws) → ◌≡◌ {A = ℕ} (get_or (w ∷ ws) i 0) 0
    each z h zero l = z
    each z h (suc i) l = h i (omega arith)
