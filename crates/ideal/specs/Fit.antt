-- What a fit table is, and that no two different live cells of it tie.
-- Assumes nothing.
use Rattle.std.specs.Prelude.{◌≡◌, refl, ◌⊎◌, not, ◌&&◌, List, ℕ, ◌≤◌, ◌<◌, leb}
use Rattle.std.proofs.Common.{sym, ◌∙◌, inl, inr, arith, eq-zero-or-pos, ltb-true, lt-ltb, leb-true, le-leb}
use Rattle.std.proofs.Math.Path.{ap}
use Rattle.std.proofs.Math.Logic.{⊎_elim}
use Rattle.std.proofs.Math.Bool.{So}
use Rattle.std.proofs.Math.Dec.{ltb}
use Rattle.std.proofs.Math.ListN.{length}
use Rattle.laws.specs.Tests.{No, passes, refuted, to_no, both, join, denied, deny, cond_true, cond_false}
use Rattle.laws.specs.Count.{every→, →every}
use Rattle.laws.specs.Order.{neither_lower}
use Rattle.rules.specs.declared.Slot.{Slot}
use Rattle.rules.specs.declared.Cell.{Cell}
use Rattle.rules.specs.Cells.{free, nth, is_free, is_blank, is_sound, is_alone, same_entry, fit, before}
use Rattle.words.proofs.Behind.{blank-free}
use Rattle.ideal.specs.Cells.{place≡, Same, same_self, same_on, free→, →free, live→, →live, same_entry→, →same_entry, before_tie}

-- a record by itself
pub record Sound (n : ℕ) (t : Slot) (c : Cell) : Type 0 where
  pub place : c.place ≤ 2
  pub blank : c.place ≡ 0 → c ≡ free
  pub input : 1 ≤ c.place → c.input.0 < n
  pub output : 1 ≤ c.place → c.output.0 < n
  pub entered : 1 ≤ c.place → c.entered.0 < t.0

pub record Fit (n : ℕ) (t : Slot) (cs : List Cell) : Type 0 where
  pub each : (k : ℕ) → k < length cs → Sound n t (nth cs k)
  pub apart : (j k : ℕ) → j < length cs → k < length cs → 1 ≤ (nth cs j).place → 1 ≤ (nth cs k).place
      → (nth cs j).entered.0 ≡ (nth cs k).entered.0 → (nth cs j).input.0 ≡ (nth cs k).input.0 → j ≡ k

-- a free record asks for nothing else
sound_blank : (n : ℕ) (t : Slot) (c : Cell) → c.place ≡ 0 → c ≡ free → Sound n t c
sound_blank n t c z e = record {
  place = omega arith;
  blank = λ w. e;
  input = λ w. absurd (omega arith);
  output = λ w. absurd (omega arith);
  entered = λ w. absurd (omega arith);
}

pub free_sound : (n : ℕ) (t : Slot) → Sound n t free
free_sound n t = sound_blank n t free refl refl

module _ (n : ℕ) (t : Slot) (c : Cell) where
  pub sound→ : So (is_sound n t c) → Sound n t c
  unfolding is_sound
  sound→ h = ⊎_elim (λ x. freed x (cond_true (is_free c) _ _ x)) (λ x. is_live x (cond_false (is_free c) _ _ x)) (passes (is_free c))
    where
      freed : So (is_free c) → is_sound n t c ≡ is_blank c → Sound n t c
      freed x e = sound_blank n t c (free→ c x) (blank-free c (free→ c x) (sym e ∙ h))

      is_live : No (is_free c) → is_sound n t c ≡ (leb c.place 2 && ltb c.input.0 n && ltb c.output.0 n && ltb c.entered.0 t.0) → Sound n t c
      is_live x e =
          let a = both _ _ (sym e ∙ h) in
          let b = both _ _ a.0 in
          let d = both _ _ b.0 in
          record {
            place = leb-true _ _ d.0;
            blank = λ w. absurd (refuted (→free c w) x);
            input = λ w. ltb-true _ _ d.1;
            output = λ w. ltb-true _ _ b.1;
            entered = λ w. ltb-true _ _ a.1;
          }

  pub →sound : Sound n t c → So (is_sound n t c)
  unfolding is_sound is_blank
  →sound s =
      ⊎_elim
      (λ x. cond_true (is_free c) _ _ x ∙ ap is_blank (s.blank (free→ c x)))
      (λ x. cond_false (is_free c) _ _ x ∙ is_live (⊎_elim (λ z. absurd (refuted (→free c z) x)) (λ z. z) (eq-zero-or-pos c.place)))
      (passes (is_free c))
    where
      is_live : 1 ≤ c.place → So (leb c.place 2 && ltb c.input.0 n && ltb c.output.0 n && ltb c.entered.0 t.0)
      is_live w =
          join _ _ (join _ _ (join _ _ (le-leb _ _ s.place) (lt-ltb _ _ (s.input w))) (lt-ltb _ _ (s.output w))) (lt-ltb _ _ (s.entered w))

module _ (n : ℕ) (t : Slot) (cs : List Cell) where
  pub fit→ : So (fit n t cs) → Fit n t cs
  unfolding fit is_alone
  fit→ h = record { each = λ k l. sound→ n t (nth cs k) (both _ _ (at k l)).0; apart = apart }
    where
      at : (k : ℕ) → k < length cs → So (is_sound n t (nth cs k) && is_alone cs k)
      at = every→ (λ k. is_sound n t (nth cs k) && is_alone cs k) (length cs) h

      -- of two records with the same slot and input neither is above the other
      above : (j k : ℕ) → j < k → k < length cs → 1 ≤ (nth cs j).place → 1 ≤ (nth cs k).place
          → (nth cs j).entered.0 ≡ (nth cs k).entered.0 → (nth cs j).input.0 ≡ (nth cs k).input.0 → ⊥
      above j k l m wj wk e i =
          refuted (→same_entry (nth cs k) (nth cs j) (→live _ wk) (→live _ wj) (sym e) (sym i))
          (denied _ (every→ (λ j. not (same_entry (nth cs k) (nth cs j))) k (both (is_sound n t (nth cs k)) _ (at k m)).1 j l))

      apart : (j k : ℕ) → j < length cs → k < length cs → 1 ≤ (nth cs j).place → 1 ≤ (nth cs k).place
          → (nth cs j).entered.0 ≡ (nth cs k).entered.0 → (nth cs j).input.0 ≡ (nth cs k).input.0 → j ≡ k
      apart j k hj hk wj wk e i = neither_lower j k (λ l. above j k l hk wj wk e i) (λ l. above k j l hj wk wj (sym e) (sym i))

  pub →fit : Fit n t cs → So (fit n t cs)
  unfolding fit is_alone
  →fit f = →every _ (length cs) (λ k l. join _ _ (→sound n t (nth cs k) (f.each k l)) (→every _ k (λ j m. deny _ (to_no (alone k j l m)))))
    where
      alone : (k j : ℕ) → k < length cs → j < k → So (same_entry (nth cs k) (nth cs j)) → ⊥
      alone k j l m x =
          let s = same_entry→ (nth cs k) (nth cs j) x in
          omega (arith, f.apart k j l (omega arith) (live→ _ s.0) (live→ _ s.1) s.2 s.3)

  -- no two different live cells of a fit table tie, for any reading
  pub untied : Fit n t cs → (r : List ℕ) (j k : ℕ) → j < length cs → k < length cs → 1 ≤ (nth cs j).place → 1 ≤ (nth cs k).place
      → No (before r (nth cs j) (nth cs k)) → No (before r (nth cs k) (nth cs j)) → j ≡ k
  untied f r j k hj hk wj wk a b = let e = before_tie r (nth cs j) (nth cs k) a b in f.apart j k hj hk wj wk e.0 e.1

-- a live record that stays: the same cell, at the same place or another
pub record Stays (c d : Cell) : Type 0 where
  pub was : 1 ≤ c.place
  pub lives : 1 ≤ d.place
  pub top : d.place ≤ 2
  pub same : Same d c

pub stays_sound : {n : ℕ} {t : Slot} {c d : Cell} → Stays c d → Sound n t c → Sound n t d
stays_sound s f =
    record {
      place = s.top;
      blank = λ w. absurd (omega (arith, s.lives));
      input = λ w. omega (arith, s.same.input, f.input s.was);
      output = λ w. omega (arith, s.same.output, f.output s.was);
      entered = λ w. omega (arith, s.same.entered, f.entered s.was);
    }

pub stays_itself : (c : Cell) → 1 ≤ c.place → c.place ≤ 2 → Stays c c
stays_itself c w t = record { was = w; lives = w; top = t; same = same_self c }

pub stays_refl : {n : ℕ} {t : Slot} (c : Cell) → Sound n t c → 1 ≤ c.place → Stays c c
stays_refl c s w = stays_itself c w s.place

pub stays_on : {c d e : Cell} → Stays c d → Stays d e → Stays c e
stays_on s q = record { was = s.was; lives = q.lives; top = q.top; same = same_on q.same s.same }

-- each record is free, or stays: then a table is fit where the one before it is
pub fit-part : {n : ℕ} {t : Slot} {cs us : List Cell} → Fit n t cs → length us ≡ length cs
    → ((k : ℕ) → k < length cs → (nth us k ≡ free) ⊎ Stays (nth cs k) (nth us k)) → Fit n t us
fit-part {n} {t} {cs} {us} f e h = record { each = λ k l. go k (omega arith) (h k (omega arith)); apart = apart }
  where
    go : (k : ℕ) → k < length cs → (nth us k ≡ free) ⊎ Stays (nth cs k) (nth us k) → Sound n t (nth us k)
    go k l (inl x) = rw x (free_sound n t)
    go k l (inr x) = stays_sound x (f.each k l)

    kept : (k : ℕ) → k < length cs → 1 ≤ (nth us k).place → Stays (nth cs k) (nth us k)
    kept k l w = ⊎_elim (λ x. absurd (omega (arith, place≡ x))) (λ x. x) (h k l)

    apart : (j k : ℕ) → j < length us → k < length us → 1 ≤ (nth us j).place → 1 ≤ (nth us k).place
        → (nth us j).entered.0 ≡ (nth us k).entered.0 → (nth us j).input.0 ≡ (nth us k).input.0 → j ≡ k
    apart j k hj hk wj wk a b =
        let x = kept j (omega arith) wj in
        let y = kept k (omega arith) wk in
        f.apart j k (omega arith) (omega arith) x.was y.was (omega arith) (omega arith)
