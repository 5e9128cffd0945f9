-- The laws of sets of ports: what shifts, masks and sums of digits compute, how many ports are in a set, and that a set is what its members say.
-- Assumes nothing.
use Rattle.std.specs.Prelude.{◌≡◌, refl, Bool, false, not, ◌&&◌, ℕ, zero, suc, ◌+◌, ◌-◌, ◌*◌, ◌/◌, ◌%◌, ◌^◌, ◌≤◌, ◌<◌, min, max, eqb, ltb, Some}
use Rattle.std.proofs.Common.{sym, ap, ◌∙◌, subst, ⊎_elim, suc-le-suc, div-one, mod-lt, zero-lt-suc, pow-suc, mul-div_cancel, mod-eq_of_lt, one-mul, le_of_suc-le-suc, not-suc-le-zero, one-add, arith, eqb-true, lt-ltb, shr-shr}
use Rattle.std.proofs.Math.Path.{fun_ext}
use Rattle.std.proofs.Math.Bool.{So}
use Rattle.std.proofs.Math.Nat.{mul-mod_left, max-zero, max-eq_right, max-le, min-le_left}
use Rattle.std.proofs.lemmas.Bool.{eqb-false}
use Rattle.std.proofs.Math.Arith.{digits_mod, lt-one}
use Rattle.std.proofs.Math.Pow.{pow-lt}
use Rattle.std.specs.Int.Bits.{bit_or, or_step, or_zero_r, bit_and, and_step, bit_xor, differ, xor_step}
use Rattle.std.proofs.lemmas.Nat.{or_shr, and_mask, and_shr, xor_shr}
use Rattle.std.specs.Int.Count.{ones, ones_step, count_trailing_zeros, under}
use Rattle.laws.specs.Tests.{No, passes, refuted, to_no, both, denied}
use Rattle.laws.specs.Count.{bit, count, count_zero, count_suc}
use Rattle.laws.specs.Least.{Least, lowest, lowest_hit}
use Rattle.laws.proofs.Least.{lowest_is, lowest_nothing, least_at}
use Rattle.laws.specs.SetWalk.{nobody, also, also_is, Walked, walk_more, walk_all}
use Rattle.ports.specs.Ports.{mask_ports, digit, has, with_port, without_port, except_ports, Added, Removed, Except, Lowest, Visits}

two_pos : zero < 2
two_pos = zero-lt-suc 1

half_below : (m k : ℕ) → m < 2 ^ suc k → m / 2 < 2 ^ k
half_below m k h = omega (arith, pow-suc 2 k)

-- Digits, lowest first -------------------------------------------------------------------------

digit_zero : (m : ℕ) → digit m 0 ≡ m % 2
unfolding digit
digit_zero m = ap (λ (x : ℕ). x % 2) (div-one m)

digit_suc : (m q : ℕ) → digit m (suc q) ≡ digit (m / 2) q
unfolding digit
digit_suc m q = sym (ap (λ (x : ℕ). x % 2) (shr-shr m 1 q ∙ ap (λ (x : ℕ). m / 2 ^ x) (one-add q)))

digit_lt : (m q : ℕ) → digit m q < 2
unfolding digit
digit_lt m q = mod-lt (m / 2 ^ q) two_pos

-- a digit from k on, of a number below 2 ^ k
digit-above : (k m q : ℕ) → m < 2 ^ k → k ≤ q → digit m q ≡ 0
digit-above zero m zero h l = digit_zero m ∙ ap (λ (x : ℕ). x % 2) (lt-one h)
digit-above zero m (suc q) h l = digit_suc m q ∙ digit-above zero (m / 2) q (let e : m ≡ 0 = lt-one h in omega arith) (omega arith)
digit-above (suc k) m zero h l = absurd (omega arith)
digit-above (suc k) m (suc q) h l = digit_suc m q ∙ digit-above k (m / 2) q (half_below m k h) (omega arith)

-- Members by digits ----------------------------------------------------------------------------

bit-has : (m q : ℕ) → bit (has m q) ≡ digit m q
unfolding has
bit-has m q = go (digit m q) (digit_lt m q)
  where
    go : (d : ℕ) → d < 2 → bit (eqb d 1) ≡ d
    go zero h = refl
    go (suc zero) h = refl
    go (suc (suc d)) h = absurd (omega arith)

to_digit : (m q : ℕ) → So (has m q) → digit m q ≡ 1
to_digit m q h = sym (bit-has m q) ∙ ap bit h

of_digit : (a b p q : ℕ) → digit a p ≡ digit b q → has a p ≡ has b q
unfolding has
of_digit a b p q e = ap (λ (d : ℕ). eqb d 1) e

of_one : (m q : ℕ) → digit m q ≡ 1 → So (has m q)
unfolding has
of_one m q e = ap (λ (d : ℕ). eqb d 1) e

of_zero : (m q : ℕ) → digit m q ≡ 0 → No (has m q)
unfolding has
of_zero m q e = ap (λ (d : ℕ). eqb d 1) e

-- what the code's shift and mask compute
pub has_by_shift : (m p : ℕ) → eqb (bit_and (m / 2 ^ p) 1) 1 ≡ has m p
unfolding has digit
has_by_shift m p = ap (λ (d : ℕ). eqb d 1) (and_mask (m / 2 ^ p) 1)

pub has_above : (m q : ℕ) → m < 2 ^ mask_ports → mask_ports ≤ q → No (has m q)
has_above m q h l = of_zero m q (digit-above mask_ports m q h l)

-- A port added ---------------------------------------------------------------------------------

or_odd : (a b : ℕ) → bit_or a b % 2 ≡ max (a % 2) (b % 2)
or_odd a b =
    ap (λ (x : ℕ). x % 2) (or_step a b)
    ∙ digits_mod (bit_or (a / 2) (b / 2)) (suc-le-suc (max-le (le_of_suc-le-suc (mod-lt a two_pos)) (le_of_suc-le-suc (mod-lt b two_pos))))

pow_half : (p : ℕ) → 2 ^ suc p / 2 ≡ 2 ^ p
pow_half p = ap (λ (x : ℕ). x / 2) (pow-suc 2 p) ∙ mul-div_cancel (2 ^ p) two_pos

pow_even : (p : ℕ) → 2 ^ suc p % 2 ≡ 0
pow_even p = ap (λ (x : ℕ). x % 2) (pow-suc 2 p) ∙ mul-mod_left (2 ^ p) 2

add_half : (m p : ℕ) → bit_or m (2 ^ suc p) / 2 ≡ bit_or (m / 2) (2 ^ p)
add_half m p = or_shr m (2 ^ suc p) 1 ∙ ap (bit_or (m / 2)) (pow_half p)

add-odd : (m p : ℕ) → bit_or m (2 ^ suc p) % 2 ≡ m % 2
add-odd m p = or_odd m (2 ^ suc p) ∙ ap (max (m % 2)) (pow_even p) ∙ max-zero (m % 2)

low_half : (m : ℕ) → bit_or m 1 / 2 ≡ m / 2
low_half m = or_shr m 1 1 ∙ or_zero_r (m / 2)

low_odd : (m : ℕ) → bit_or m 1 % 2 ≡ 1
low_odd m = or_odd m 1 ∙ max-eq_right (le_of_suc-le-suc (mod-lt m two_pos))

add_same : (p m : ℕ) → digit (bit_or m (2 ^ p)) p ≡ 1
add_same zero m = digit_zero (bit_or m 1) ∙ low_odd m
add_same (suc p) m = digit_suc (bit_or m (2 ^ suc p)) p ∙ ap (λ (x : ℕ). digit x p) (add_half m p) ∙ add_same p (m / 2)

add-other : (p q m : ℕ) → (q ≡ p → ⊥) → digit (bit_or m (2 ^ p)) q ≡ digit m q
add-other zero zero m h = absurd (h refl)
add-other zero (suc q) m h = digit_suc (bit_or m 1) q ∙ ap (λ (x : ℕ). digit x q) (low_half m) ∙ sym (digit_suc m q)
add-other (suc p) zero m h = digit_zero (bit_or m (2 ^ suc p)) ∙ add-odd m p ∙ sym (digit_zero m)
add-other (suc p) (suc q) m h =
    digit_suc (bit_or m (2 ^ suc p)) q ∙ ap (λ (x : ℕ). digit x q) (add_half m p) ∙ add-other p q (m / 2) (λ e. h (ap suc e))
    ∙ sym (digit_suc m q)

-- what the code's shift computes
shift_is : (p : ℕ) → p < mask_ports → 1 * 2 ^ p % 2 ^ mask_ports ≡ 2 ^ p
shift_is p h = mod-eq_of_lt (subst (λ (x : ℕ). x < 2 ^ mask_ports) (sym (one-mul (2 ^ p))) (pow-lt h)) ∙ one-mul (2 ^ p)

pub with_by_shift : (m p : ℕ) → p < mask_ports → bit_or m (1 * 2 ^ p % 2 ^ mask_ports) ≡ with_port m p
unfolding with_port
with_by_shift m p h = ap (bit_or m) (shift_is p h)

pub added : {m p r : ℕ} → r ≡ with_port m p → Added m p r
unfolding with_port
added {m} {p} e = rw e (record {
  inside = of_one (bit_or m (2 ^ p)) p (add_same p m);
  others = λ q ne. of_digit (bit_or m (2 ^ p)) m q q (add-other p q m ne);
})

-- A port taken out -----------------------------------------------------------------------------

pow_le : (p m : ℕ) → digit m p ≡ 1 → 2 ^ p ≤ m
pow_le zero m e = omega (arith, digit_zero m)
pow_le (suc p) m e = let le : 2 ^ p ≤ m / 2 = pow_le p (m / 2) (sym (digit_suc m p) ∙ e) in omega (arith, pow-suc 2 p)

pow_pos : (p : ℕ) → 0 < 2 ^ p
pow_pos zero = omega arith
pow_pos (suc p) = omega (arith, pow_pos p, pow-suc 2 p)

less_half : (m p : ℕ) → (m - 2 ^ suc p) / 2 ≡ m / 2 - 2 ^ p
less_half m p = omega (arith, pow-suc 2 p)

less_odd : (m p : ℕ) → 2 ^ suc p ≤ m → (m - 2 ^ suc p) % 2 ≡ m % 2
less_odd m p h = omega (arith, pow-suc 2 p)

less_same : (p m : ℕ) → digit m p ≡ 1 → digit (m - 2 ^ p) p ≡ 0
less_same zero m e = omega (arith, digit_zero m, digit_zero (m - 1))
less_same (suc p) m e =
    digit_suc (m - 2 ^ suc p) p ∙ ap (λ (x : ℕ). digit x p) (less_half m p) ∙ less_same p (m / 2) (sym (digit_suc m p) ∙ e)

less_other : (p q m : ℕ) → digit m p ≡ 1 → (q ≡ p → ⊥) → digit (m - 2 ^ p) q ≡ digit m q
less_other zero zero m e n = absurd (n refl)
less_other zero (suc q) m e n =
    let same : (m - 1) / 2 ≡ m / 2 = omega (arith, digit_zero m) in
    digit_suc (m - 1) q ∙ ap (λ (x : ℕ). digit x q) same ∙ sym (digit_suc m q)
less_other (suc p) zero m e n = digit_zero (m - 2 ^ suc p) ∙ less_odd m p (pow_le (suc p) m e) ∙ sym (digit_zero m)
less_other (suc p) (suc q) m e n =
    digit_suc (m - 2 ^ suc p) q ∙ ap (λ (x : ℕ). digit x q) (less_half m p)
    ∙ less_other p q (m / 2) (sym (digit_suc m p) ∙ e) (λ f. n (ap suc f)) ∙ sym (digit_suc m q)

pub shift_le : (m p : ℕ) → p < mask_ports → So (has m p) → 1 * 2 ^ p % 2 ^ mask_ports ≤ m
shift_le m p h e = subst (λ (x : ℕ). x ≤ m) (sym (shift_is p h)) (pow_le p m (to_digit m p e))

pub without_by_shift : (m p : ℕ) → p < mask_ports → m - 1 * 2 ^ p % 2 ^ mask_ports ≡ without_port m p
unfolding without_port
without_by_shift m p h = ap (λ (x : ℕ). m - x) (shift_is p h)

pub removed : {m p r : ℕ} → So (has m p) → r ≡ without_port m p → Removed m p r
unfolding without_port
removed {m} {p} h e = rw e (record {
  outside = of_zero (m - 2 ^ p) p (less_same p m (to_digit m p h));
  others = λ q n. of_digit (m - 2 ^ p) m q q (less_other p q m (to_digit m p h) n);
})

-- The ports of one set that are not in another -------------------------------------------------

digit_cases : (P : ℕ → Type 0) → P 0 → P 1 → (d : ℕ) → d < 2 → P d
digit_cases P z o zero h = z
digit_cases P z o (suc zero) h = o
digit_cases P z o (suc (suc d)) h = absurd (omega arith)

and_odd : (a b : ℕ) → bit_and a b % 2 ≡ min (a % 2) (b % 2)
and_odd a b = ap (λ (x : ℕ). x % 2) (and_step a b) ∙ digits_mod (bit_and (a / 2) (b / 2)) (omega (arith, min-le_left (a % 2) (b % 2)))

xor_odd : (a b : ℕ) → bit_xor a b % 2 ≡ differ (a % 2) (b % 2)
xor_odd a b = ap (λ (x : ℕ). x % 2) (xor_step a b) ∙ digits_mod (bit_xor (a / 2) (b / 2)) (small (a % 2) (mod-lt a two_pos) (b % 2) (mod-lt b two_pos))
  where
    small : (x : ℕ) → x < 2 → (y : ℕ) → y < 2 → differ x y < 2
    small = digit_cases (λ (x : ℕ). (y : ℕ) → y < 2 → differ x y < 2) (λ y h. h) (digit_cases (λ (y : ℕ). differ 1 y < 2) (omega arith) (omega arith))

except_digit : (a b q : ℕ) → digit (bit_xor a (bit_and a b)) q ≡ differ (digit a q) (min (digit a q) (digit b q))
unfolding digit
except_digit a b q =
    ap (λ (x : ℕ). x % 2) (xor_shr a (bit_and a b) q ∙ ap (bit_xor (a / 2 ^ q)) (and_shr a b q))
    ∙ xor_odd (a / 2 ^ q) (bit_and (a / 2 ^ q) (b / 2 ^ q))
    ∙ ap (differ (a / 2 ^ q % 2)) (and_odd (a / 2 ^ q) (b / 2 ^ q))

pub excepted : {m k r : ℕ} → r ≡ except_ports m k → Except m k r
unfolding has except_ports
excepted {m} {k} e = rw e (record {
  each = λ q. ap (λ (d : ℕ). eqb d 1) (except_digit m k q) ∙ go (digit m q) (digit_lt m q) (digit k q) (digit_lt k q);
})
  where
    go : (d : ℕ) → d < 2 → (e : ℕ) → e < 2 → eqb (differ d (min d e)) 1 ≡ eqb d 1 && not (eqb e 1)
    go =
        digit_cases (λ (d : ℕ). (e : ℕ) → e < 2 → eqb (differ d (min d e)) 1 ≡ eqb d 1 && not (eqb e 1))
        (digit_cases (λ (e : ℕ). eqb (min 0 e) 1 ≡ false) refl refl)
        (digit_cases (λ (e : ℕ). eqb (differ 1 (min 1 e)) 1 ≡ not (eqb e 1)) refl refl)

-- a member is in the one set and not in the other
module _ {m k r : ℕ} (e : Except m k r) (q : ℕ) (h : So (has r q)) where
  pub except_in : So (has m q)
  except_in = (both (has m q) _ (sym (e.each q) ∙ h)).0

  pub except_out : No (has k q)
  except_out = denied _ (both (has m q) _ (sym (e.each q) ∙ h)).1

-- How many -------------------------------------------------------------------------------------

count_low : (n m : ℕ) → count (has m) (suc n) ≡ m % 2 + count (has (m / 2)) n
count_low zero m = omega (arith, count_suc (has m) 0, count_zero (has m), count_zero (has (m / 2)), bit-has m 0, digit_zero m)
count_low (suc n) m =
    omega (arith, count_suc (has m) (suc n), count_suc (has (m / 2)) n, count_low n m, bit-has m (suc n), digit_suc m n, bit-has (m / 2) n)

pub count_ones : (k m : ℕ) → m < 2 ^ k → ones m ≡ count (has m) k
unfolding ones
count_ones zero m h = ap ones (lt-one h) ∙ sym (count_zero (has m))
count_ones (suc k) m h = ones_step m ∙ ap (λ (x : ℕ). m % 2 + x) (count_ones k (m / 2) (half_below m k h)) ∙ sym (count_low k m)

-- The lowest member ----------------------------------------------------------------------------

abbrev Low : ℕ → ℕ → ℕ → Type 0
Low k m t = (t < k) × (digit m t ≡ 1) × ((q : ℕ) → q < t → digit m q ≡ 0)

trailing_low : (k m : ℕ) → 0 < m → m < 2 ^ k → Low k m (count_trailing_zeros k m)
unfolding count_trailing_zeros
trailing_low zero m p h = absurd (not-suc-le-zero (subst (λ (x : ℕ). 0 < x) (lt-one h) p))
trailing_low (suc k) m p h = go (λ q. trailing_low k (m / 2) q (half_below m k h)) (m % 2) refl
  where
    go : (0 < m / 2 → Low k (m / 2) (count_trailing_zeros k (m / 2))) → (d : ℕ) → d ≡ m % 2 → Low (suc k) m (under d (count_trailing_zeros k (m / 2)))
    go rest zero e =
        let ih = rest (omega arith) in
        (suc-le-suc ih.0, digit_suc m (count_trailing_zeros k (m / 2)) ∙ ih.1, below ih.2)
      where
        below : ((q : ℕ) → q < count_trailing_zeros k (m / 2) → digit (m / 2) q ≡ 0) → (q : ℕ) → q < suc (count_trailing_zeros k (m / 2)) → digit m q ≡ 0
        below l zero g = digit_zero m ∙ sym e
        below l (suc q) g = digit_suc m q ∙ l q (le_of_suc-le-suc g)
    go rest (suc zero) e = (zero-lt-suc k, digit_zero m ∙ sym e, (λ q l. absurd (not-suc-le-zero l)))
    go rest (suc (suc d)) e = absurd (omega (arith, mod-lt m two_pos))

lowest_low : {m r : ℕ} → Lowest m r → lowest (has m) mask_ports ≡ Some r
lowest_low {m} {r} l = lowest_hit (has m) r mask_ports l.small (lowest_nothing (has m) r l.least) l.inside

pub lowest_by_trailing : (m : ℕ) → 0 < m → m < 2 ^ mask_ports → lowest (has m) mask_ports ≡ Some (count_trailing_zeros mask_ports m)
lowest_by_trailing m p h =
    let t : Low mask_ports m (count_trailing_zeros mask_ports m) = trailing_low mask_ports m p h in
    lowest_low (record { small = t.0; inside = of_one m _ t.1; least = λ q l. of_zero m q (t.2 q l) })

pub lowest_port : {m r : ℕ} → lowest (has m) mask_ports ≡ Some r → Lowest m r
lowest_port {m} {r} e =
    let at = least_at (has m) ltb mask_ports r e in
    let is : Least (has m) ltb mask_ports (Some r) = rw e at (lowest_is (has m) mask_ports) in
    record { small = at.0; inside = at.1; least = λ q l. to_no (λ x. refuted (lt-ltb q r l) (is.2 q (omega (arith, at.0)) x)) }

-- A walk over a set takes its lowest port out, again and again; as a number the set gets less.
pub visits : {m o rest : ℕ} → lowest (has m) mask_ports ≡ Some o → rest ≡ without_port m o → Visits m o rest
unfolding without_port
visits {m} {o} e q =
    let l = lowest_port e in
    record { lowest = l; removed = removed l.inside q; less = omega (arith, q, pow_le o m (to_digit m o l.inside), pow_pos o) }

-- A set is what its members say ----------------------------------------------------------------

pub has-none : (q : ℕ) → No (has 0 q)
has-none q = of_zero 0 q (go q)
  where
    go : (q : ℕ) → digit 0 q ≡ 0
    go zero = digit_zero 0
    go (suc q) = digit_suc 0 q ∙ go q

digits_known : (k a b : ℕ) → a < 2 ^ k → b < 2 ^ k → ((q : ℕ) → q < k → digit a q ≡ digit b q) → a ≡ b
digits_known zero a b ha hb h = lt-one ha ∙ sym (lt-one hb)
digits_known (suc k) a b ha hb h =
    let high : a / 2 ≡ b / 2 =
    digits_known k (a / 2) (b / 2) (half_below a k ha) (half_below b k hb) (λ q l. sym (digit_suc a q) ∙ h (suc q) (suc-le-suc l) ∙ digit_suc b q) in
    let low : a % 2 ≡ b % 2 = sym (digit_zero a) ∙ h 0 (zero-lt-suc k) ∙ digit_zero b in
    omega arith

set_known : (k a b : ℕ) → a < 2 ^ k → b < 2 ^ k → ((q : ℕ) → q < k → has a q ≡ has b q) → a ≡ b
set_known k a b ha hb h = digits_known k a b ha hb (λ q l. sym (bit-has a q) ∙ ap bit (h q l) ∙ bit-has b q)

pub none_inside : (m : ℕ) → m < 2 ^ mask_ports → ((q : ℕ) → q < mask_ports → No (has m q)) → m ≡ 0
none_inside m h f = set_known mask_ports m 0 h (zero-lt-suc 65535) (λ q l. f q l ∙ sym (has-none q))

pub added_kept : {m p r : ℕ} → Added m p r → (q : ℕ) → So (has m q) → So (has r q)
added_kept {m} {p} {r} d q h = ⊎_elim (λ x. ap (has r) (eqb-true q p x) ∙ d.inside) (λ x. d.others q (eqb-false q p x) ∙ h) (passes (eqb q p))

-- Walks over a set -------------------------------------------------------------------------------

pub has-nobody : has 0 ≡ nobody
has-nobody = fun_ext has-none

pub added_also : {m p r : ℕ} → Added m p r → has r ≡ also (has m) p
added_also {m} {p} {r} d = also_is (has m) p (has r) d.inside d.others

module _ {S : Type 0} {P : (ℕ → Bool) → S → Type 0} {members : ℕ → Bool} where
  -- one turn: the lowest that is left is visited
  pub walk_visit : {left o rest : ℕ} {s t : S} → Visits left o rest → Walked P members (has left) s → ((v : ℕ → Bool) → P v s → P (also v o) t)
      → Walked P members (has rest) t
  walk_visit {left} {o} {rest} d w step = walk_more o w d.lowest.inside d.removed.outside d.removed.others step

  -- none is left
  pub walk_done : {left : ℕ} {s : S} → left ≡ 0 → Walked P members (has left) s → P members s
  walk_done e w = walk_all (λ q. ap (λ (m : ℕ). has m q) e ∙ has-none q) w
