-- Numbers sifted out in one pass, each behind the last one that stays. The first m words of the list are numbers below n, in rising order, and of
-- every number below n that is not among them it is known that it may be left out. `Chosen` is the pass that settles which stay: those of a test.
-- Assumes nothing.
use Rattle.std.specs.Prelude.{◌≡◌, refl, Bool, true, false, cond, ℕ, zero, suc, ◌+◌, ◌-◌, ◌*◌, ◌/◌, ◌%◌, ◌≤◌, ◌<◌, ltb, get_or, set, take}
use Rattle.std.proofs.Math.Path.{sym}
use Rattle.std.proofs.Common.{ap, ◌∙◌, ⊎_elim, arith, add-one, add-zero, mod-lt, div-add-mod', le-div_iff_mul-le, div-lt_iff_lt-mul, eq-or-lt_of_le, length-append, get_or-set_same, get_or-set_other, get_or-take, take-suc-set, ltb-true, ltb-false}
use mathlib.Core.List.{List, [], ◌∷◌, ◌++◌}
use Rattle.std.proofs.Math.ListN.{length, get_or-append}
use Rattle.std.proofs.lemmas.List.{get_or_at, take-set-le}
use Rattle.std.proofs.Math.Bool.{So}
use Rattle.laws.specs.Tests.{No, passes}
use Rattle.laws.specs.Count.{bit}
use Rattle.laws.specs.Walk.{over, over_zero, over_more, below_suc, walk_on}

-- the number behind the first j that are sifted
abbrev pub past : List ℕ → ℕ → ℕ
past ws zero = 0
past ws (suc j) = suc (get_or ws j 0)

pub record Sifted (out : ℕ → Type 0) (ws : List ℕ) (m n : ℕ) : Type 0 where
  pub few : m ≤ n
  pub reach : past ws m ≤ n
  pub rising : (j : ℕ) → j < m → (past ws j ≤ get_or ws j 0) × (get_or ws j 0 < n)
  pub gaps : (j : ℕ) → j < m → (x : ℕ) → past ws j ≤ x → x < get_or ws j 0 → out x
  pub rest : (x : ℕ) → past ws m ≤ x → x < n → out x

pub sifted_none : (out : ℕ → Type 0) (ws : List ℕ) → Sifted out ws 0 0
sifted_none out ws = record {
  few = omega arith;
  reach = omega arith;
  rising = λ j l. absurd (omega arith);
  gaps = λ j l. absurd (omega arith);
  rest = λ x l h. absurd (omega arith);
}

-- what may be left out for one reason may be for another
pub sifted_as : {out other : ℕ → Type 0} {ws : List ℕ} {m n : ℕ} → ((x : ℕ) → x < n → out x → other x) → Sifted out ws m n → Sifted other ws m n
sifted_as {ws = ws} h d = record {
  few = d.few;
  reach = d.reach;
  rising = d.rising;
  gaps = λ j l x a b. h x (let r = d.rising j l in omega (arith, r.1)) (d.gaps j l x a b);
  rest = λ x a b. h x b (d.rest x a b);
}

module _ {out : ℕ → Type 0} {ws : List ℕ} {m n : ℕ} (d : Sifted out ws m n) where
  -- numbers that are not looked at
  sifted_skip : (k : ℕ) → n ≤ k → ((x : ℕ) → n ≤ x → x < k → out x) → Sifted out ws m k
  sifted_skip k l h = record {
    few = omega (arith, d.few);
    reach = omega (arith, d.reach);
    rising = λ j i. let r = d.rising j i in (r.0, omega (arith, r.1));
    gaps = d.gaps;
    rest = λ x a b. ⊎_elim (λ i. d.rest x a (ltb-true x n i)) (λ i. h x (ltb-false x n i) b) (passes (ltb x n));
  }

  -- another list that begins with the same numbers
  sifted_like : (vs : List ℕ) → ((j : ℕ) → j < m → get_or vs j 0 ≡ get_or ws j 0) → Sifted out vs m n
  sifted_like vs same = record {
    few = d.few;
    reach = rw (same-past m (omega arith)) d.reach;
    rising = λ j i. let r = d.rising j i in (rw (same j i, same-past j (omega arith)) r.0, rw (same j i) r.1);
    gaps = λ j i x a c. d.gaps j i x (rw (same-past j (omega arith)) at a) (rw (same j i) at c);
    rest = λ x a c. d.rest x (rw (same-past m (omega arith)) at a) c;
  }
    where
      same-past : (j : ℕ) → j ≤ m → past vs j ≡ past ws j
      same-past zero i = refl
      same-past (suc j) i = ap suc (same j i)

  -- the first m numbers by themselves
  pub sifted_front : {xs : List ℕ} → (xs ≡ take m ws) × (length xs ≡ m) → Sifted out xs (length xs) n
  sifted_front {xs} e = rw e.1 (sifted_like xs (λ j i. ap (λ (l : List ℕ). get_or l j 0) e.0 ∙ get_or-take m ws j 0 i))

  -- the next number stays
  sifted_next : get_or ws m 0 ≡ n → Sifted out ws (suc m) (suc n)
  sifted_next e = record {
    few = omega (arith, d.few);
    reach = omega arith;
    rising = below_suc (λ (j : ℕ). (past ws j ≤ get_or ws j 0) × (get_or ws j 0 < suc n)) m
        (λ j i. let r = d.rising j i in (r.0, omega (arith, r.1)))
        (omega (arith, d.reach), omega arith);
    gaps = below_suc (λ (j : ℕ). (x : ℕ) → past ws j ≤ x → x < get_or ws j 0 → out x) m d.gaps (λ x a c. d.rest x a (omega arith));
    rest = λ x a c. absurd (omega arith);
  }

module _ {out : ℕ → Type 0} {ws : List ℕ} {m n : ℕ} (d : Sifted out ws m n) where
  -- the next number is written, and stays or does not
  pub sifted_more : (b : Bool) → m < length ws → (No b → out n) → Sifted out (set ws m n) (m + bit b) (n + 1)
  sifted_more b l h = go b h
    where
      written : Sifted out (set ws m n) m n
      written = sifted_like d (set ws m n) (λ j i. get_or-set_other ws m j n 0 (omega arith))

      go : (b : Bool) → (No b → out n) → Sifted out (set ws m n) (m + bit b) (n + 1)
      go true h = rw (add-one m, add-one n) (sifted_next written (get_or-set_same ws m n 0 l))
      go false h = rw (add-zero m) (sifted_skip written (n + 1) (omega arith) (λ x a c. let e : x ≡ n = omega arith in rw e (h refl)))

  -- a walk over what is sifted: what every number that may be left out keeps is brought to the next one sifted, and from the last to the end
  module _ (P : ℕ → Type 0) (keeps : (x : ℕ) → x < n → out x → P x → P (x + 1)) where
    pub to_sifted : (j : ℕ) → j < m → P (past ws j) → P (get_or ws j 0)
    to_sifted j l p =
        let r = d.rising j l in
        let e : past ws j + (get_or ws j 0 - past ws j) ≡ get_or ws j 0 = omega (arith, r.0) in
        rw e at (walk_on P (past ws j) (get_or ws j 0 - past ws j) (λ x a b. keeps x (omega (arith, r.0, r.1)) (d.gaps j l x a (omega (arith, r.0)))) p)

    pub to_end : P (past ws m) → P n
    to_end p =
        let e : past ws m + (n - past ws m) ≡ n = omega (arith, d.reach) in
        rw e at (walk_on P (past ws m) (n - past ws m) (λ x a b. keeps x (omega (arith, d.reach)) (d.rest x a (omega (arith, d.reach)))) p)

-- Blocks of w numbers, sifted where one of them must not be left out ------------------------------------

-- each number of block b may be left out
abbrev pub Block : ℕ → (ℕ → Type 0) → ℕ → Type 0
Block w out b = (j : ℕ) → j < w → out (b * w + j)

module _ (w : ℕ) (some : 0 < w) (out : ℕ → Type 0) {blocks : List ℕ} {m n : ℕ} (d : Sifted (Block w out) blocks m n) where
  in_block : (x : ℕ) → Block w out (x / w) → out x
  in_block x h = rw (div-add-mod' x w) at (h (x % w) (mod-lt x some))

  -- between two blocks sifted, and behind the last one
  pub blocks_between : (j : ℕ) → j < m → (x : ℕ) → past blocks j * w ≤ x → x < get_or blocks j 0 * w → out x
  blocks_between j l x a b = in_block x (d.gaps j l (x / w) ((le-div_iff_mul-le some).1 a) ((div-lt_iff_lt-mul some).1 b))

  pub blocks-behind : (x : ℕ) → past blocks m * w ≤ x → x < n * w → out x
  blocks-behind x a b = in_block x (d.rest (x / w) ((le-div_iff_mul-le some).1 a) ((div-lt_iff_lt-mul some).1 b))

-- The numbers that pass a test -----------------------------------------------------------------------

-- those below n, in rising order
unfoldable pub chosen : (ℕ → Bool) → ℕ → List ℕ
chosen p n = over (λ k l. cond (p k) (l ++ (k ∷ [])) l) [] n

-- they are the first m words of the list
pub record Chosen (p : ℕ → Bool) (n : ℕ) (ws : List ℕ) (m : ℕ) : Type 0 where
  pub many : m ≡ length (chosen p n)
  pub front : take m ws ≡ chosen p n

-- which settles those words and how many they are
pub chosen_settled : {p : ℕ → Bool} {n m k : ℕ} {ws vs : List ℕ} → Chosen p n ws m → Chosen p n vs k → (m ≡ k) × (take m ws ≡ take k vs)
chosen_settled c d = (c.many ∙ sym d.many, c.front ∙ sym d.front)

module _ (p : ℕ → Bool) where
  pub chosen_none : (ws : List ℕ) → Chosen p 0 ws 0
  unfolding chosen
  chosen_none ws = let e : chosen p 0 ≡ [] = over_zero _ _ in record { many = sym (ap length e); front = sym e }

  chosen_yes : (n : ℕ) → p n ≡ true → chosen p (n + 1) ≡ chosen p n ++ (n ∷ [])
  unfolding chosen
  chosen_yes n h = over_more _ _ n ∙ rw h

  chosen_no : (n : ℕ) → p n ≡ false → chosen p (n + 1) ≡ chosen p n
  unfolding chosen
  chosen_no n h = over_more _ _ n ∙ rw h

  -- the next number is written, and stays or does not
  pub chosen_more : {n m : ℕ} {ws : List ℕ} → Chosen p n ws m → m < length ws → Chosen p (n + 1) (set ws m n) (m + bit (p n))
  chosen_more {n} {m} {ws} c l = ⊎_elim (λ h. rw h (stays h)) (λ h. rw h (let e : m + 0 ≡ m = omega arith in rw e (goes h))) (passes (p n))
    where
      stays : p n ≡ true → Chosen p (n + 1) (set ws m n) (m + 1)
      stays h = record {
        many = rw (chosen_yes n h) (omega (arith, c.many, length-append (chosen p n) (n ∷ [])));
        front = rw (add-one m) (take-suc-set ws m n l ∙ ap (λ (l : List ℕ). l ++ (n ∷ [])) c.front) ∙ sym (chosen_yes n h);
      }

      goes : p n ≡ false → Chosen p (n + 1) (set ws m n) m
      goes h = record { many = c.many ∙ ap length (sym (chosen_no n h)); front = take-set-le m ws m n (omega arith) ∙ c.front ∙ sym (chosen_no n h) }

  -- numbers that are not looked at
  pub chosen_skip : {n m : ℕ} {ws : List ℕ} (k : ℕ) → Chosen p n ws m → n ≤ k → ((x : ℕ) → n ≤ x → x < k → No (p x)) → Chosen p k ws m
  chosen_skip {n} k c l h =
      let same : ℕ → Type 0 = λ x. chosen p x ≡ chosen p n in
      let q : n + (k - n) ≡ k = omega arith in
      let e : same k = rw q at (walk_on same n (k - n) (λ x a b i. chosen_no x (h x a (omega arith)) ∙ i) refl) in
      record { many = c.many ∙ ap length (sym e); front = c.front ∙ sym e }

  -- they are sifted: one that is left out fails the test
  abbrev Rising : ℕ → Type 0
  Rising n = Sifted (λ x. No (p x)) (chosen p n) (length (chosen p n)) n

  rises : (n : ℕ) → Rising n
  rises zero = let c = chosen_none [] in rw (sym c.many) (sifted_none _ _)
  rises (suc n) = rw (sym (add-one n)) (⊎_elim (λ h. yes h (rises n)) (λ h. no h (rises n)) (passes (p n)))
    where
      yes : p n ≡ true → Rising n → Rising (n + 1)
      yes h d =
          let l = length-append (chosen p n) (n ∷ []) in
          let e : length (chosen p n ++ (n ∷ [])) ≡ suc (length (chosen p n)) = omega arith in
          rw (chosen_yes n h, e, add-one n)
          (sifted_next
          (sifted_like d (chosen p n ++ (n ∷ [])) (λ j i. get_or-append (chosen p n) (n ∷ []) 0 j i))
          (get_or_at (chosen p n) n [] 0 (length (chosen p n)) refl))

      no : p n ≡ false → Rising n → Rising (n + 1)
      no h d = rw (chosen_no n h) (sifted_skip d (n + 1) (omega arith) (λ x a c. let e : x ≡ n = omega arith in rw e h))

  pub chosen_sifted : {n m : ℕ} {ws : List ℕ} → Chosen p n ws m → Sifted (λ x. No (p x)) ws m n
  chosen_sifted {n} {m} {ws} c =
      sifted_like (rw (sym c.many) at (rises n)) ws
      (λ j i. sym (get_or-take m ws j 0 i) ∙ ap (λ (l : List ℕ). get_or l j 0) c.front)

  -- each of them passes the test
  abbrev Passing : ℕ → Type 0
  Passing n = (j : ℕ) → j < length (chosen p n) → So (p (get_or (chosen p n) j 0))

  all_pass : (n : ℕ) → Passing n
  all_pass zero = let c = chosen_none [] in λ j l. absurd (omega (arith, c.many))
  all_pass (suc n) = rw (sym (add-one n)) (⊎_elim (λ h. yes h (all_pass n)) (λ h. no h (all_pass n)) (passes (p n)))
    where
      yes : p n ≡ true → Passing n → Passing (n + 1)
      yes h d = rw (chosen_yes n h) (λ j l. ⊎_elim (λ e. last j e) (λ i. below j i) (eq-or-lt_of_le {n = j} {m = length (chosen p n)} (omega (arith, length-append (chosen p n) (n ∷ [])))))
        where
          last : (j : ℕ) → j ≡ length (chosen p n) → So (p (get_or (chosen p n ++ (n ∷ [])) j 0))
          last j e = rw (e, get_or_at (chosen p n) n [] 0 (length (chosen p n)) refl) h

          below : (j : ℕ) → j < length (chosen p n) → So (p (get_or (chosen p n ++ (n ∷ [])) j 0))
          below j i = rw (get_or-append (chosen p n) (n ∷ []) 0 j i) (d j i)

      no : p n ≡ false → Passing n → Passing (n + 1)
      no h d = rw (chosen_no n h) d

  pub chosen_passes : {n m : ℕ} {ws : List ℕ} → Chosen p n ws m → (j : ℕ) → j < m → So (p (get_or ws j 0))
  chosen_passes {n} {m} {ws} c j l =
      let e : get_or ws j 0 ≡ get_or (chosen p n) j 0 = sym (get_or-take m ws j 0 l) ∙ ap (λ (l : List ℕ). get_or l j 0) c.front in
      rw e (all_pass n j (omega (arith, c.many)))
