-- The first by an order that ranks: the least element is it, and the firsts of two parts make the first of the whole.
use Rattle.std.specs.Prelude.{◌≡◌, ◌⊎◌, Bool, ℕ, ◌<◌, Option, Some, None}
use Rattle.std.proofs.Common.{sym, subst, ⊎_elim}
use Rattle.std.proofs.Math.Bool.{So}
use Rattle.laws.specs.Order.{Ranks}
use Rattle.laws.specs.Least.{least}
use Rattle.laws.specs.First.{First, first_found, ahead_on, first_one, least_first, first_two}

module _ (before : ℕ → ℕ → Bool) (w : Ranks before) where
  pub first-least : (p : ℕ → Bool) (n : ℕ) (x : Option ℕ) → First p before n x → x ≡ least p before n
  first-least p n x h = first_one before w p n x (least p before n) h (least_first before w p n)

  -- the first of a whole of two parts
  module _ (p q s : ℕ → Bool) (n : ℕ) (left : (j : ℕ) → j < n → So (p j) → So (s j)) (right : (j : ℕ) → j < n → So (q j) → So (s j))
      (parts : (j : ℕ) → j < n → So (s j) → So (p j) ⊎ So (q j)) where
    pub first_join : (x y : Option ℕ) → First p before n x → First q before n y → First s before n (first_found before x y)
    first_join None None h g = λ j l v. ⊎_elim (λ u. h j l u) (λ u. g j l u) (parts j l v)
    first_join None (Some k) h g = (g.0, right k g.0 g.1, λ j l v. ⊎_elim (λ u. absurd (h j l u)) (λ u. g.2 j l u) (parts j l v))
    first_join (Some j) None h g = (h.0, left j h.0 h.1, λ i l v. ⊎_elim (λ u. h.2 i l u) (λ u. absurd (g i l u)) (parts i l v))
    first_join (Some j) (Some k) h g =
        let t = first_two before w j k in
        subst (First s before n) (sym t.1) (
          ⊎_elim (λ (e : t.0 ≡ j). rw e h.0) (λ (e : t.0 ≡ k). rw e g.0) t.4,
          ⊎_elim (λ (e : t.0 ≡ j). rw e (left j h.0 h.1)) (λ (e : t.0 ≡ k). rw e (right k g.0 g.1)) t.4,
          λ i l v. ⊎_elim (λ u. ahead_on before w t.0 j i t.2 (h.2 i l u)) (λ u. ahead_on before w t.0 k i t.3 (g.2 i l u)) (parts i l v),
        )
