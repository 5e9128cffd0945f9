-- A search in the range of the numbers below n finds what the rules' does.
use Rattle.std.specs.Prelude.{◌≡◌, ℕ, zero, suc, ◌+◌, Bool, ◌||◌}
use Rattle.std.specs.List.{list_any, range_with_len}
use Rattle.std.proofs.Common.{sym, ◌∙◌, ap, arith, add-one}
use Rattle.std.proofs.Math.Bool.{or_assoc, or-false}
use Rattle.laws.specs.Count.{any}
use Rattle.laws.specs.Walk.{over}

module _ (p : ℕ → Bool) where
  -- from any number on, behind what the numbers below it gave
  any_from : (n a : ℕ) → (any p a || list_any p (range_with_len a n)) ≡ any p (a + n)
  unfolding any over
  any_from zero a = let e : a + 0 ≡ a = omega arith in rw e (or-false (any p a))
  any_from (suc n) a =
      let e : a + suc n ≡ (a + 1) + n = omega arith in
      let step : any p (a + 1) ≡ (any p a || p a) = rw (add-one a) in
      let rest : Bool = list_any p (range_with_len (a + 1) n) in
      rw e (sym (or_assoc (any p a) (p a) rest) ∙ ap (λ (b : Bool). b || rest) (sym step) ∙ any_from n (a + 1))

  pub any_range : (n : ℕ) → list_any p (range_with_len 0 n) ≡ any p n
  unfolding any over
  any_range n = let e : 0 + n ≡ n = omega arith in any_from n 0 ∙ ap (any p) e
