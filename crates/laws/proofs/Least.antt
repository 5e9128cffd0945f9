-- What follows from the laws of the least element: what is found passes, tests that agree find the same, the lowest number, the largest key, counting onto.
use Rattle.std.specs.Prelude.{◌≡◌, ◌⊎◌, Bool, true, false, cond, ◌&&◌, ℕ, zero, suc, ◌≤◌, ◌<◌, ltb, eqb, Option, Some, None}
use Rattle.std.proofs.Math.Path.{refl}
use Rattle.std.proofs.Common.{sym, ap, ◌∙◌, inl, inr, arith, eqb-true, eq-eqb, ltb-false}
use Rattle.std.proofs.Math.Bool.{So}
use Rattle.std.proofs.Math.Numerals.{add-one}
use Rattle.laws.specs.Tests.{No, both, join}
use Rattle.laws.specs.Walk.{over}
use Rattle.laws.specs.Count.{count, count_into}
use Rattle.laws.specs.Order.{ltb_strict, strict_on, strict_back}
use Rattle.laws.specs.Least.{sooner, least, Least, Below, least_zero, least_below, least_is, Passes, least_passes, lowest, lowest-none}

pub least_at : (p : ℕ → Bool) (before : ℕ → ℕ → Bool) (n k : ℕ) → least p before n ≡ Some k → (k < n) × So (p k)
least_at p before n k e = (rw e at (least_below p before n), rw e at (least_passes p before n))

-- tests that agree below n, with orders that agree on what passes, find the same
pub least_alike : (p q : ℕ → Bool) (before after : ℕ → ℕ → Bool) (n : ℕ) → ((k : ℕ) → k < n → p k ≡ q k)
    → ((j k : ℕ) → j < n → k < n → So (q j) → So (q k) → before j k ≡ after j k) → least p before n ≡ least q after n
unfolding least over
least_alike p q before after zero h g = refl
least_alike p q before after (suc n) h g =
    rw (h n (omega arith), least_alike p q before after n (λ k l. h k (omega arith)) (λ j k i l. g j k (omega arith) (omega arith)))
    (step (q n) refl (least q after n) (least_below q after n) (least_passes q after n))
  where
    step : (b : Bool) → q n ≡ b → (x : Option ℕ) → Below n x → Passes q x → sooner before x b n ≡ sooner after x b n
    step true e (Some j) l s = ap (λ t. cond t (Some n) (Some j)) (g n j (omega arith) (omega arith) e s)
    step false e (Some j) l s = refl
    step true e None l s = refl
    step false e None l s = refl

-- tests that agree below n find the same
pub least-same : (p q : ℕ → Bool) (before after : ℕ → ℕ → Bool) (n : ℕ) → ((k : ℕ) → k < n → p k ≡ q k)
    → ((j k : ℕ) → j < n → k < n → before j k ≡ after j k) → least p before n ≡ least q after n
least-same p q before after n h g = least_alike p q before after n h (λ j k i l x y. g j k i l)

module _ (p : ℕ → Bool) where
  pub lowest_is : (n : ℕ) → Least p ltb n (lowest p n)
  lowest_is n = least_is p ltb ltb_strict n

  pub lowest_nothing : (n : ℕ) → ((k : ℕ) → k < n → No (p k)) → lowest p n ≡ None
  lowest_nothing zero h = least_zero p ltb
  lowest_nothing (suc n) h = rw (← add-one n) (lowest-none p n (lowest_nothing n (λ k l. h k (omega arith))) (h n (omega arith)))

-- one that passes with the largest key of those that do, or none passes
pub largest_key : (p : ℕ → Bool) (key : ℕ → ℕ) (n : ℕ)
    → ((k : ℕ) × (k < n) × So (p k) × ((j : ℕ) → j < n → So (p j) → key j ≤ key k)) ⊎ ((k : ℕ) → k < n → So (p k) → ⊥)
largest_key p key n = go (least p higher n) (least_is p higher (strict_on (λ i j. ltb j i) (strict_back ltb ltb_strict) key) n)
  where
    higher : ℕ → ℕ → Bool
    higher i j = ltb (key j) (key i)

    go : (x : Option ℕ) → Least p higher n x
        → ((k : ℕ) × (k < n) × So (p k) × ((j : ℕ) → j < n → So (p j) → key j ≤ key k)) ⊎ ((k : ℕ) → k < n → So (p k) → ⊥)
    go (Some k) h = inl (k, h.0, h.1, λ j l x. ltb-false (key k) (key j) (h.2 j l x))
    go None h = inr h

-- each number below n that passes q is f of one below m that passes p: no more of the first than of the second
pub count_onto : (p : ℕ → Bool) (f : ℕ → ℕ) (m : ℕ) (q : ℕ → Bool) (n : ℕ)
    → ((o : ℕ) → o < n → So (q o) → (k : ℕ) × (k < m) × So (p k) × (f k ≡ o)) → count q n ≤ count p m
count_onto p f m q n from =
    count_into q (λ o. number (first o)) m n p (λ o l x. let s = is o l x in (s.0, s.1)) (λ o q ho hq x y e. sym (is o ho x).2 ∙ ap f e ∙ (is q hq y).2)
  where
    first : ℕ → Option ℕ
    first o = lowest (λ k. p k && eqb (f k) o) m

    number : Option ℕ → ℕ
    number (Some k) = k
    number None = 0

    is : (o : ℕ) → o < n → So (q o) → (number (first o) < m) × So (p (number (first o))) × (f (number (first o)) ≡ o)
    is o l x = go (first o) (lowest_is (λ k. p k && eqb (f k) o) m)
      where
        go : (y : Option ℕ) → Least (λ k. p k && eqb (f k) o) ltb m y → (number y < m) × So (p (number y)) × (f (number y) ≡ o)
        go (Some k) h = let b = both (p k) _ h.1 in (h.0, b.0, eqb-true (f k) o b.1)
        go None h = let k = from o l x in absurd (h k.0 k.1 (join (p k.0) _ k.2 (eq-eqb (f k.0) o k.3)))
