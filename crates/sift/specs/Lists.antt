-- Numbers listed in one pass, each of which a test that is passed in tells whether it stays.
-- Assumes nothing.
use Rattle.std.specs.Prelude.{ℕ, ◌+◌, ◌≤◌, ◌<◌, ◌≡◌, refl, Bool, true, false, cond, List, [], eqb, length, get_or, set, take}
use Rattle.std.proofs.Common.{ap, ◌∙◌, ⊎_elim, arith, get_or-take, eqb-true, eq-eqb, ne_eqb}
use Rattle.std.proofs.lemmas.Bool.{eqb-false}
use Rattle.std.specs.Int.{from_bool}
use Rattle.laws.specs.Count.{bit, bit_le}
use Rattle.laws.specs.Tests.{passes}
use Rattle.laws.specs.Sifted.{Sifted, Chosen, chosen_none, chosen_more, chosen_sifted, sifted_as}

-- a number that is listed is below this, and fits a byte
abbrev pub most_numbers : ℕ
most_numbers = 256

-- What a pass over the numbers from one to another has done, where `gives x b` holds of the answer b that the test gave for x: the first m words of
-- the list were those below `from` that pass a test, and the first n of the new one are those below `to`, if the test says the same of those between.
pub record Lists (gives : ℕ → Bool → Type 0) (from to : ℕ) (old : List ℕ) (m : ℕ) (new : List ℕ) (n : ℕ) : Type 0 where
  pub stays : ℕ → Bool
  pub given : (x : ℕ) → from ≤ x → x < to → gives x (stays x)
  pub few : m ≤ from → n ≤ to
  pub chosen : (p : ℕ → Bool) → ((x : ℕ) → from ≤ x → x < to → p x ≡ stays x) → Chosen p from old m → Chosen p to new n

-- a number read from the m words that a list begins with
pub read_front : (ws : List ℕ) {xs : List ℕ} {m j x : ℕ} → xs ≡ take m ws → j < m → x ≡ get_or xs j 0 → x ≡ get_or ws j 0
read_front ws {m = m} {j} e l r = r ∙ ap (λ (xs : List ℕ). get_or xs j 0) e ∙ get_or-take m ws j 0 l

-- the number that a test counts for, as the code makes it
pub by_bool : (b : Bool) → from_bool b ≡ bit b
by_bool true = refl
by_bool false = refl

module _ {gives : ℕ → Bool → Type 0} where
  pub lists_none : (from : ℕ) (ws : List ℕ) (m : ℕ) → Lists gives from from ws m ws m
  lists_none from ws m = record {
    stays = λ x. false;
    given = λ x a b. absurd (omega arith);
    few = λ l. l;
    chosen = λ p h c. c;
  }

  module _ {from to : ℕ} {old new : List ℕ} {m n : ℕ} (d : Lists gives from to old m new n) where
    -- the test of one number more
    abbrev also : Bool → ℕ → Bool
    also b x = cond (eqb x to) b (d.stays x)

    also_here : (b : Bool) → also b to ≡ b
    also_here b = rw (eq-eqb to to refl) refl

    also_below : (b : Bool) (x : ℕ) → x < to → also b x ≡ d.stays x
    also_below b x l = rw (ne_eqb x to (λ e. omega (arith, e))) refl

    -- it is written, and stays or does not
    pub lists_more : (b : Bool) → gives to b → from ≤ to → n < length new → Lists gives from (to + 1) old m (set new n to) (n + bit b)
    lists_more b g l i = record {
      stays = also b;
      given = λ x a c.
          ⊎_elim
          (λ e. let q : x ≡ to = eqb-true x to e in rw (q, also_here b) g)
          (λ e. let q : x < to = omega (arith, eqb-false x to e) in rw (also_below b x q) (d.given x a q))
          (passes (eqb x to));
      few = λ h. omega (arith, d.few h, bit_le b);
      chosen = λ p h c.
          let e : p to ≡ b = h to l (omega arith) ∙ also_here b in
          rw e at (chosen_more p (d.chosen p (λ x a k. h x a (omega arith) ∙ also_below b x k) c) i);
    }

  -- a list of none may as well be an empty one
  pub lists_afresh : {to : ℕ} {old new : List ℕ} {m n : ℕ} → Lists gives 0 to old m new n → m ≡ 0 → Lists gives 0 to [] 0 new n
  lists_afresh {old = old} d e = record {
    stays = d.stays;
    given = d.given;
    few = λ l. d.few (omega (arith, e));
    chosen = λ p h c. d.chosen p h (rw e (chosen_none p old));
  }

  -- what is listed of the numbers from 0 on is sifted
  pub lists_sifted : {to : ℕ} {old new : List ℕ} {m n : ℕ} {out : ℕ → Type 0} → Lists gives 0 to old m new n → m ≡ 0
      → ((x : ℕ) → x < to → gives x false → out x) → Sifted out new n to
  lists_sifted {old = old} d e h =
      sifted_as
      (λ x l q. h x l (rw q at (d.given x (omega arith) l)))
      (chosen_sifted d.stays (d.chosen d.stays (λ x a b. refl) (rw e (chosen_none d.stays old))))
