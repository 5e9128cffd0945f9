-- What a record must meet by itself. This is the one file that looks inside `is_sound`: all that the rest of the check knows of it is that a free
-- record must be blank. A free record that is not is a stray.
-- Assumes nothing.
use Rattle.std.specs.Prelude.{ℕ, ◌+◌, ◌-◌, ◌≤◌, ◌<◌, ◌≡◌, refl, Bool, not, ◌&&◌, List, [], ◌∷◌, ◌++◌, length, get_or, eqb, ltb}
use Rattle.std.proofs.Common.{sym, ap, ap₂, ◌∙◌, ⊎_elim, arith, eqb-true, eq-eqb, ne_eqb, ltb-true, ltb-false, add-zero}
use Rattle.std.proofs.Math.Bool.{So}
use Rattle.std.proofs.Math.ListN.{get_or-append}
use Rattle.std.specs.Int.Bits.{bit_or, or_zero_l, or_zero_r}
use Rattle.std.specs.List.{range_with_len}
use Rattle.std.proofs.lemmas.List.{get_or_push, length_push}
use Rattle.std.proofs.lemmas.List.FromFn.{length-range_with_len, get_or-range_with_len}
use Rattle.std.proofs.lemmas.Bool.{eqb-false}
use Rattle.laws.specs.Bits.{or_none, or_to, or_to-none, none-or_to}
use Rattle.laws.specs.Tests.{No, both, join, passes, refuted, to_no, denied, deny, same_test, cond_true}
use Rattle.rules.specs.declared.Cell.{Cell}
use Rattle.rules.specs.Cells.{free, nth, is_free, is_blank, is_sound, width}
use Rattle.words.specs.Behind.{behind, blank→, →blank, free-blank}
use Rattle.words.proofs.Behind.{blank-free}
use Rattle.fit_check.specs.declared.Bounds.{Bounds}

abbrev pub sound_by : Bounds → Cell → Bool
sound_by b = is_sound b.ports b.next

pub sound_by-free : (b : Bounds) (c : Cell) → So (is_free c) → sound_by b c ≡ is_blank c
unfolding is_sound
sound_by-free b c h = cond_true (is_free c) _ _ h

-- Strays ------------------------------------------------------------------------------------------

unfoldable pub is_stray : Cell → Bool
is_stray c = is_free c && not (is_blank c)

pub stray_free : (c : Cell) → So (is_stray c) → So (is_free c)
unfolding is_stray
stray_free c h = (both (is_free c) _ h).0

pub stray_not-blank : (c : Cell) → So (is_stray c) → No (is_blank c)
unfolding is_stray
stray_not-blank c h = denied (is_blank c) (both (is_free c) _ h).1

pub no_stray : (c : Cell) → No (is_stray c) → c.place ≡ 0 → c ≡ free
unfolding is_stray is_free
no_stray c h e = blank-free c e (⊎_elim (λ b. b) (λ b. absurd (refuted (join _ _ (eq-eqb c.place 0 e) (deny _ b)) h)) (passes (is_blank c)))

pub free_no_stray : (c : Cell) → c ≡ free → No (is_stray c)
unfolding is_stray
free_no_stray c e = to_no (λ h. refuted (ap is_blank e ∙ free-blank) (stray_not-blank c h))

-- blank by the or of what stands behind the place
pub or_blank : (c : Cell) → eqb (or_to (behind c) (width - 1)) 0 ≡ is_blank c
or_blank c =
    same_test _ _
    (λ h. →blank c (or_to-none (behind c) (width - 1) (eqb-true _ 0 h)))
    (λ h. eq-eqb _ 0 (none-or_to (behind c) (width - 1) (blank→ c h)))

pub live_stray : (c : Cell) → (c.place ≡ 0 → ⊥) → not (eqb 0 0) ≡ is_stray c
unfolding is_stray is_free
live_stray c h = rw (ne_eqb c.place 0 h)

pub or_stray : (c : Cell) (r : ℕ) → c.place ≡ 0 → r ≡ or_to (behind c) (width - 1) → not (eqb r 0) ≡ is_stray c
unfolding is_stray is_free
or_stray c r e h = ap (λ (x : ℕ). not (eqb x 0)) h ∙ ap not (or_blank c) ∙ rw (eq-eqb c.place 0 e)

-- of the records from one to another: r tells whether there is one
pub record Strays (cs : List Cell) (from to r : ℕ) : Type 0 where
  pub none : r ≡ 0 → (x : ℕ) → from ≤ x → x < to → No (is_stray (nth cs x))
  pub some : (r ≡ 0 → ⊥) → (x : ℕ) × (x < to) × So (is_stray (nth cs x))

pub strays_none : (cs : List Cell) (k : ℕ) → Strays cs k k 0
strays_none cs k = record { none = λ e x a b. absurd (omega arith); some = λ h. absurd (h refl) }

-- of one part and the next
pub strays_join : {cs : List Cell} {from k to a b : ℕ} → k ≤ to → Strays cs from k a → Strays cs k to b → Strays cs from to (bit_or a b)
strays_join {cs} {from} {k} {to} {a} {b} l x y = record {
  none = λ e i f g. let z = or_none a b e in ⊎_elim (λ h. x.none z.0 i f (ltb-true i k h)) (λ h. y.none z.1 i (ltb-false i k h) g) (passes (ltb i k));
  some = λ h. ⊎_elim (λ e. y.some (λ q. h (ap₂ bit_or (eqb-true a 0 e) q ∙ or_zero_l 0))) (λ e. below (x.some (eqb-false a 0 e))) (passes (eqb a 0));
}
  where
    below : (i : ℕ) × (i < k) × So (is_stray (nth cs i)) → (i : ℕ) × (i < to) × So (is_stray (nth cs i))
    below s = (s.0, omega (arith, s.1), s.2)

-- one record
pub strays_one : (cs : List Cell) (k r : ℕ) {c : Cell} → c ≡ nth cs k → not (eqb r 0) ≡ is_stray c → Strays cs k (k + 1) r
strays_one cs k r e s = record {
  none = λ z x a b. let q : x ≡ k = omega arith in rw q (ap is_stray (sym e) ∙ sym s ∙ ap (λ (n : ℕ). not (eqb n 0)) z);
  some = λ h. (k, omega arith, ap is_stray (sym e) ∙ sym s ∙ deny (eqb r 0) (ne_eqb r 0 h));
}

-- free records have none
pub strays_skip : {cs : List Cell} {from k a : ℕ} (to : ℕ) → k ≤ to → Strays cs from k a → ((x : ℕ) → k ≤ x → x < to → nth cs x ≡ free) → Strays cs from to a
strays_skip {cs} {a = a} to l s h =
    rw (or_zero_r a) at (strays_join {b = 0} l s (record { none = λ e x i j. free_no_stray (nth cs x) (h x i j); some = λ q. absurd (q refl) }))

-- One record after another: of the records whose numbers are listed, where these are the numbers from `from` on, in turn.
abbrev pub StraysOf : List Cell → ℕ → List ℕ → ℕ → Type 0
StraysOf cs from xs r = ((i : ℕ) → i < length xs → get_or xs i 0 ≡ from + i) → Strays cs from (from + length xs) r

module _ (cs : List Cell) (from : ℕ) where
  pub strays_of-none : StraysOf cs from [] 0
  strays_of-none h = rw (add-zero from) (strays_none cs from)

  pub strays_of-more : (xs : List ℕ) {a : ℕ} → StraysOf cs from xs a → (x r : ℕ) {c : Cell} → c ≡ nth cs x → not (eqb r 0) ≡ is_stray c
      → StraysOf cs from (xs ++ x ∷ []) (bit_or a r)
  strays_of-more xs d x r e s h =
      let more = length_push xs x in
      let below = d (λ i l. sym (get_or-append xs (x ∷ []) 0 i l) ∙ h i (omega (arith, more))) in
      let last : x ≡ from + length xs = sym (get_or_push xs x 0 (length xs) refl) ∙ h (length xs) (omega (arith, more)) in
      let to : from + length (xs ++ x ∷ []) ≡ from + length xs + 1 = omega (arith, more) in
      rw to (strays_join (omega arith) below (rw last at (strays_one cs x r e s)))

  pub strays_of-range : (to : ℕ) {r : ℕ} → from ≤ to → StraysOf cs from (range_with_len from (to - from)) r → Strays cs from to r
  strays_of-range to l d =
      let long = length-range_with_len from (to - from) in
      let end : from + length (range_with_len from (to - from)) ≡ to = omega (arith, long) in
      rw end at (d (λ i b. get_or-range_with_len from (to - from) i 0 (omega (arith, long))))
