-- The inhale: what stood there stays, and each arriving cell takes a free record of its own. That the table stays fit, and that none is lost,
-- stands in proofs/Inhale.antt.
-- Assumes nothing.
use Rattle.std.specs.Prelude.{◌≡◌, refl, ◌⊎◌, true, ℕ, suc, ◌+◌, ◌≤◌, ◌<◌, eqb, ltb, length, set, Option, Some, None}
use Rattle.std.proofs.Common.{sym, ◌∙◌, inl, inr, arith, eq-zero-or-pos, eq-or-lt_of_le, length-set, get_or-set_same, eqb-true, eq-eqb}
use Rattle.std.proofs.Math.Path.{ap}
use Rattle.std.proofs.Math.Logic.{⊎_elim}
use Rattle.std.proofs.Math.Bool.{So}
use mathlib.Core.List.{List}
use Rattle.laws.specs.Tests.{No, passes, refuted, denied, cond_true, cond_false}
use Rattle.laws.specs.Walk.{over_ind}
use Rattle.laws.specs.Count.{bit, count, count_zero, count_suc, count_all, count_extra, count_more, count_either, count_one, count_prefix, count_le}
use Rattle.laws.specs.Least.{Least}
use Rattle.laws.proofs.Least.{lowest_is}
use Rattle.laws.specs.Lists.{set_cases}
use Rattle.laws.specs.Order.{pred_below}
use Rattle.rules.specs.declared.Slot.{Slot}
use Rattle.rules.specs.declared.Cell.{Cell}
use Rattle.rules.specs.Cells.{free, nth, slot_of, is_free, is_live}
use Rattle.rules.specs.Answers.{first_word, arrives, arriving, live}
use Rattle.rules.specs.Phases.{lowest_free, arrival, store_at, enter, inhale}
use Rattle.ideal.specs.Cells.{place≡, input≡, entered≡, free→, →free, live→, →live, not-live→}
use Rattle.ideal.specs.Fit.{Sound, Fit}

-- a record holds the cell that arrived at an input below i
abbrev pub Came : Slot → List ℕ → ℕ → Cell → Type 0
Came t arrivals i c = (j : ℕ) × (j < i) × So (arrives arrivals j) × (c ≡ arrival t arrivals j)

-- what an inhale has made of cs at the inputs below i
pub record Inhaled (t : Slot) (arrivals : List ℕ) (i : ℕ) (cs us : List Cell) : Type 0 where
  pub long : length us ≡ length cs
  pub old : (k : ℕ) → k < length cs → 1 ≤ (nth cs k).place → nth us k ≡ nth cs k
  pub new : (k : ℕ) → k < length cs → (nth cs k).place ≡ 0 → (nth us k ≡ nth cs k) ⊎ Came t arrivals i (nth us k)
  pub came : (j : ℕ) → j < i → So (arrives arrivals j) → (k : ℕ) × (k < length cs) × ((nth cs k).place ≡ 0) × (nth us k ≡ arrival t arrivals j)
  pub once : (j k : ℕ) → j < length cs → k < length cs → (nth cs j).place ≡ 0 → (nth cs k).place ≡ 0 → 1 ≤ (nth us j).place → 1 ≤ (nth us k).place
      → (nth us j).input.0 ≡ (nth us k).input.0 → j ≡ k
  pub total : live us ≡ live cs + count (arrives arrivals) i

-- a live cell stored in a free record: one more is live
pub live-store : (us : List Cell) (k : ℕ) (c : Cell) → k < length us → (nth us k).place ≡ 0 → 1 ≤ c.place → live (set us k c) ≡ live us + 1
unfolding live
live-store us k c l z w =
    rw (length-set us k c)
    (omega (
      arith,
      count_more (λ j. is_live (nth us j)) (λ j. is_live (nth (set us k c) j)) (length us) up k l here (λ x. omega (arith, live→ _ x)),
      count_either (λ j. is_live (nth (set us k c) j)) (λ j. is_live (nth us j)) (λ j. eqb j k) (length us) side,
      count_one (λ j. eqb j k) (length us) (λ a b ha hb x y. eqb-true a k x ∙ sym (eqb-true b k y)),
    ))
  where
    here : So (is_live (nth (set us k c) k))
    here = rw (get_or-set_same us k c free l) (→live c w)

    up : (j : ℕ) → j < length us → So (is_live (nth us j)) → So (is_live (nth (set us k c) j))
    up j i x = ⊎_elim (λ s. rw s.1 (→live c w)) (λ s. rw s.1 x) (set_cases free us k c l j)

    side : (j : ℕ) → j < length us → So (is_live (nth (set us k c) j)) → So (is_live (nth us j)) ⊎ So (eqb j k)
    side j i x = ⊎_elim (λ s. inr (eq-eqb j k s.0)) (λ s. inl (rw s.1 at x)) (set_cases free us k c l j)

pub live_le : (us : List Cell) → live us ≤ length us
unfolding live
live_le us = count_le (λ k. is_live (nth us k)) (length us)

pub arriving_le : (n : ℕ) (arrivals : List ℕ) → arriving n arrivals ≤ n
unfolding arriving
arriving_le n arrivals = count_le (arrives arrivals) n

-- where fewer are live than there are records, one is free
pub some_free : (us : List Cell) → live us < length us → (k : ℕ) × (k < length us) × So (is_free (nth us k))
unfolding live
some_free us h =
    let x = count_extra (λ k. is_live (nth us k)) (λ k. true) (length us) (omega (arith, count_all (length us))) in
    (x.0, x.1, →free _ (not-live→ _ x.3))

pub arrives→ : (arrivals : List ℕ) (i : ℕ) → So (arrives arrivals i) → 1 ≤ first_word arrivals i
unfolding arrives
arrives→ arrivals i h = ⊎_elim (λ z. absurd (refuted (eq-eqb (first_word arrivals i) 0 z) (denied _ h))) (λ z. z) (eq-zero-or-pos (first_word arrivals i))

module _ {t : Slot} {arrivals : List ℕ} {cs : List Cell} where
  inhaled-none : Inhaled t arrivals 0 cs cs
  inhaled-none =
      record {
        long = refl;
        old = λ k l w. refl;
        new = λ k l z. inl refl;
        came = λ j l x. absurd (omega arith);
        once = λ j k hj hk zj zk wj wk e. absurd (omega arith);
        total = omega (arith, count_zero (arrives arrivals));
      }

  module _ {i : ℕ} {us : List Cell} (h : Inhaled t arrivals i cs us) where
    -- nothing arrives at input i
    inhaled_skip : No (arrives arrivals i) → Inhaled t arrivals (suc i) cs us
    inhaled_skip x =
        record {
          long = h.long;
          old = h.old;
          new = λ k l z. ⊎_elim (λ y. inl y) (λ y. inr (y.0, omega (arith, y.1), y.2, y.3)) (h.new k l z);
          came = λ j l y. ⊎_elim (λ (e : j ≡ i). absurd (refuted (rw e at y) x)) (λ m. h.came j m y) (eq-or-lt_of_le {n = j} {m = i} (omega arith));
          once = h.once;
          total = omega (arith, h.total, count_suc (arrives arrivals) i, ap bit x);
        }

    -- what arrives at input i takes the free record k
    module _ (k : ℕ) (l : k < length us) (z : (nth us k).place ≡ 0) (x : So (arrives arrivals i)) where
      abbrev c : Cell
      c = arrival t arrivals i

      -- a record other than k is as it was, and k holds c
      cases : (j : ℕ) → ((j ≡ k) × (nth (set us k c) j ≡ c)) ⊎ ((j ≡ k → ⊥) × (nth (set us k c) j ≡ nth us j))
      cases j = set_cases free us k c l j

      -- the record was free before the inhale
      was : (nth cs k).place ≡ 0
      was = ⊎_elim (λ e. e) (λ w. absurd (omega (arith, place≡ (h.old k (omega (arith, h.long)) w)))) (eq-zero-or-pos (nth cs k).place)

      store-old : (j : ℕ) → j < length cs → 1 ≤ (nth cs j).place → nth (set us k c) j ≡ nth cs j
      store-old j m w = ⊎_elim (λ s. absurd (omega (arith, was, ap (λ (q : ℕ). (nth cs q).place) s.0))) (λ s. s.1 ∙ h.old j m w) (cases j)

      store_new : (j : ℕ) → j < length cs → (nth cs j).place ≡ 0 → (nth (set us k c) j ≡ nth cs j) ⊎ Came t arrivals (suc i) (nth (set us k c) j)
      store_new j m w =
          ⊎_elim
          (λ s. inr (i, omega arith, x, s.1))
          (λ s. ⊎_elim (λ y. inl (s.1 ∙ y)) (λ y. inr (y.0, omega (arith, y.1), y.2, s.1 ∙ y.3)) (h.new j m w))
          (cases j)

      -- a record that holds a cell is not k
      keeps : (q j : ℕ) → nth us q ≡ arrival t arrivals j → nth (set us k c) q ≡ arrival t arrivals j
      keeps q j e = ⊎_elim (λ s. absurd (omega (arith, z, ap (λ (j : ℕ). (nth us j).place) s.0, place≡ e))) (λ s. s.1 ∙ e) (cases q)

      store_came : (j : ℕ) → j < suc i → So (arrives arrivals j)
          → (q : ℕ) × (q < length cs) × ((nth cs q).place ≡ 0) × (nth (set us k c) q ≡ arrival t arrivals j)
      store_came j m y =
          ⊎_elim
          (λ (e : j ≡ i). (k, omega (arith, h.long), was, rw e (get_or-set_same us k c free l)))
          (λ b. let q = h.came j b y in (q.0, q.1, q.2, keeps q.0 j q.3))
          (eq-or-lt_of_le {n = j} {m = i} (omega arith))

      -- what arrived before came at a lower input
      low : (j : ℕ) → j < length cs → (nth cs j).place ≡ 0 → nth (set us k c) j ≡ nth us j → 1 ≤ (nth (set us k c) j).place → (nth (set us k c) j).input.0 < i
      low j m w e y = ⊎_elim (λ s. absurd (omega (arith, place≡ e, place≡ s))) (λ s. omega (arith, s.1, input≡ e, input≡ s.3)) (h.new j m w)

      store_once : (a b : ℕ) → a < length cs → b < length cs → (nth cs a).place ≡ 0 → (nth cs b).place ≡ 0
          → 1 ≤ (nth (set us k c) a).place → 1 ≤ (nth (set us k c) b).place → (nth (set us k c) a).input.0 ≡ (nth (set us k c) b).input.0 → a ≡ b
      store_once a b ha hb za zb wa wb e = go (cases a) (cases b)
        where
          go : ((a ≡ k) × (nth (set us k c) a ≡ c)) ⊎ ((a ≡ k → ⊥) × (nth (set us k c) a ≡ nth us a))
              → ((b ≡ k) × (nth (set us k c) b ≡ c)) ⊎ ((b ≡ k → ⊥) × (nth (set us k c) b ≡ nth us b)) → a ≡ b
          go (inl p) (inl q) = p.0 ∙ sym q.0
          go (inl p) (inr q) = absurd (omega (arith, input≡ p.1, low b hb zb q.1 wb))
          go (inr p) (inl q) = absurd (omega (arith, input≡ q.1, low a ha za p.1 wa))
          go (inr p) (inr q) = h.once a b ha hb za zb (rw p.1 at wa) (rw q.1 at wb) (sym (input≡ p.1) ∙ e ∙ input≡ q.1)

      inhaled-store : Inhaled t arrivals (suc i) cs (set us k c)
      inhaled-store = record {
        long = length-set us k c ∙ h.long;
        old = store-old;
        new = store_new;
        came = store_came;
        once = store_once;
        total = omega (arith, live-store us k c l z (omega arith), h.total, count_suc (arrives arrivals) i, ap bit x);
      }

    -- one input; there is room while fewer are live than there are records
    inhaled-enter : (So (arrives arrivals i) → live us < length us) → Inhaled t arrivals (suc i) cs (enter t arrivals i us)
    unfolding enter lowest_free
    inhaled-enter room =
        ⊎_elim
        (λ x. rw (cond_true (arrives arrivals i) (at (lowest_free us)) us x) (go x (lowest_free us) (lowest_is (λ k. is_free (nth us k)) (length us))))
        (λ x. rw (cond_false (arrives arrivals i) (at (lowest_free us)) us x) (inhaled_skip x))
        (passes (arrives arrivals i))
      where
        at : Option ℕ → List Cell
        at f = store_at f (arrival t arrivals i) us

        go : So (arrives arrivals i) → (f : Option ℕ) → Least (λ k. is_free (nth us k)) ltb (length us) f → Inhaled t arrivals (suc i) cs (at f)
        go x (Some k) s = inhaled-store k s.0 (free→ _ s.1) x
        go x None s = let k = some_free us (room x) in absurd (s k.0 k.1 k.2)

-- a live record is an old one, or came in slot t
pub inhaled_was : {t : Slot} {arrivals : List ℕ} {i : ℕ} {cs us : List Cell} → Inhaled t arrivals i cs us → (k : ℕ) → k < length cs → 1 ≤ (nth us k).place
    → ((1 ≤ (nth cs k).place) × (nth us k ≡ nth cs k)) ⊎ (((nth cs k).place ≡ 0) × ((nth us k).entered.0 ≡ t.0) × ((nth us k).place ≡ 1))
inhaled_was {cs = cs} h k l w =
    ⊎_elim
    (λ z. ⊎_elim (λ y. absurd (omega (arith, place≡ y))) (λ y. inr (z, entered≡ y.3, place≡ y.3)) (h.new k l z))
    (λ z. inl (z, h.old k l z))
    (eq-zero-or-pos (nth cs k).place)

-- The table stays fit, for the next slot, where every first word names an output
module _ {n : ℕ} {t : Slot} {arrivals : List ℕ} {cs us : List Cell} (h : Inhaled t arrivals n cs us) (f : Fit n t cs)
    (known : (i : ℕ) → i < n → first_word arrivals i ≤ n) where
  pub old_sound : (c : Cell) → Sound n t c → Sound n (slot_of (suc t.0)) c
  old_sound c s = record { place = s.place; blank = s.blank; input = s.input; output = s.output; entered = λ w. omega (arith, s.entered w) }

  pub arrival_sound : (j : ℕ) → j < n → So (arrives arrivals j) → Sound n (slot_of (suc t.0)) (arrival t arrivals j)
  arrival_sound j l x =
      record {
        place = omega arith;
        blank = λ e. absurd (omega arith);
        input = λ w. l;
        output = λ w. pred_below (first_word arrivals j) n (arrives→ arrivals j x) (known j l);
        entered = λ w. omega arith;
      }

  early : (k : ℕ) → k < length cs → 1 ≤ (nth cs k).place → nth us k ≡ nth cs k → (nth us k).entered.0 < t.0
  early k l w e = rw e ((f.each k l).entered w)

  pub still_apart : (j k : ℕ) → j < length cs → k < length cs → 1 ≤ (nth us j).place → 1 ≤ (nth us k).place
      → (nth us j).entered.0 ≡ (nth us k).entered.0 → (nth us j).input.0 ≡ (nth us k).input.0 → j ≡ k
  still_apart j k hj hk wj wk e i = go (inhaled_was h j hj wj) (inhaled_was h k hk wk)
    where
      Was : ℕ → Type 0
      Was q = ((1 ≤ (nth cs q).place) × (nth us q ≡ nth cs q)) ⊎ (((nth cs q).place ≡ 0) × ((nth us q).entered.0 ≡ t.0) × ((nth us q).place ≡ 1))

      go : Was j → Was k → j ≡ k
      go (inl x) (inl y) = f.apart j k hj hk x.0 y.0 (sym (entered≡ x.1) ∙ e ∙ entered≡ y.1) (sym (input≡ x.1) ∙ i ∙ input≡ y.1)
      go (inl x) (inr y) = absurd (omega (arith, early j hj x.0 x.1, y.1))
      go (inr x) (inl y) = absurd (omega (arith, early k hk y.0 y.1, x.1))
      go (inr x) (inr y) = h.once j k hj hk x.0 y.0 wj wk i

-- A slot that is accepted has room for every arriving cell: each gets a record, so none is lost.
module _ (n : ℕ) (t : Slot) (arrivals : List ℕ) (cs : List Cell) (room : live cs + arriving n arrivals ≤ length cs) where
  pub inhale_is : Inhaled t arrivals n cs (inhale n t arrivals cs)
  unfolding inhale arriving
  inhale_is =
      over_ind (enter t arrivals) cs (λ i us. Inhaled t arrivals i cs us) inhaled-none n
      (λ i l us h. inhaled-enter h (λ x.
      omega (arith, h.total, h.long, count_suc (arrives arrivals) i, ap bit x, count_prefix (arrives arrivals) (suc i) n l)))
