-- When a cell leaves. A cell is due in slot s while, before slot t, it is held with s - t others before it; after slot s it is gone. An inhale
-- and a phase keep that, and an exhale shows the cell exactly when it is due (proofs/Due.antt).
-- Assumes nothing.
use Rattle.std.specs.Prelude.{◌≡◌, ◌⊎◌, List, ℕ, suc, ◌+◌, ◌≤◌, ◌<◌, length}
use Rattle.std.proofs.Common.{sym, subst, ap, ◌∙◌, inl, inr, ⊎_elim, arith, eq-zero-or-pos}
use Rattle.std.proofs.Math.Bool.{So}
use borrow.Author.Tests.{eqb-true}
use Rattle.laws.specs.Tests.{No, refuted}
use Rattle.rules.specs.declared.Switch.{Switch}
use Rattle.rules.specs.declared.Slot.{Slot}
use Rattle.rules.specs.declared.Cell.{Cell}
use Rattle.rules.specs.Cells.{nth, same_input, same_slot}
use Rattle.rules.specs.Phases.{is_emitted, exhale, exhaled}
use Rattle.rules.specs.Model.{same}
use Rattle.rules.specs.Demands.{elders, emits, emitted, Leaves}
use Rattle.ideal.specs.Cells.{entered≡, input≡, →same}
use Rattle.ideal.specs.Fit.{Fit, Stays, stays_refl, stays_on}
use Rattle.ideal.specs.Inhale.{Inhaled, inhaled_was}
use Rattle.ideal.specs.Exhale.{emitted→, length-exhale, exhale_kept, exhale-left}
use Rattle.ideal.specs.Exhaled.{shown→}
use Rattle.ideal.proofs.Exhaled.{shown}
use Rattle.demands.specs.Elders.{Holds, elders_hold}

-- no live record has c's slot and input
abbrev pub Gone : Cell → List Cell → Type 0
Gone c cs = (q : ℕ) → q < length cs → 1 ≤ (nth cs q).place → (nth cs q).entered.0 ≡ c.entered.0 → (nth cs q).input.0 ≡ c.input.0 → ⊥

-- c is held before slot t, and as many stand before it as there are slots from t to s
pub record Held (c : Cell) (s t : ℕ) (cs : List Cell) : Type 0 where
  pub number : ℕ
  pub below : number < length cs
  pub stays : Stays c (nth cs number)
  pub turn : elders cs c + t ≡ s

abbrev pub Due : Cell → ℕ → ℕ → List Cell → Type 0
Due c s t cs = Held c s t cs ⊎ ((s < t) × Gone c cs)

-- Between exhales --------------------------------------------------------------------------------

pub due_hold : {c : Cell} {s t b : ℕ} {cs us : List Cell} → Holds b cs us → c.entered.0 < b → Due c s t cs → Due c s t us
due_hold {c} {s} {t} {b} {cs} {us} h early (inl q) =
    inl (record {
      number = q.number;
      below = omega (arith, h.long, q.below);
      stays = stays_on q.stays (h.stays q.number q.below q.stays.lives);
      turn = omega (arith, elders_hold h c early, q.turn);
    })
due_hold {c} {s} {t} {b} {cs} {us} h early (inr g) = inr (g.0, gone)
  where
    gone : Gone c us
    gone q l w e i =
        let m : q < length cs = omega (arith, h.long) in
        ⊎_elim
        (λ z. omega (arith, h.new q m z w))
        (λ z. let x = h.stays q m z in g.1 q m z (sym x.same.entered ∙ e) (sym x.same.input ∙ i))
        (eq-zero-or-pos (nth cs q).place)

pub inhale_holds : {n i : ℕ} {t : Slot} {arrivals : List ℕ} {cs us : List Cell} → Inhaled t arrivals i cs us → Fit n t cs → Holds t.0 cs us
inhale_holds {cs = cs} h f =
    record {
      long = h.long;
      stays = λ k l w. rw (h.old k l w) (stays_refl (nth cs k) (f.each k l) w);
      new = λ k l z w. ⊎_elim (λ y. absurd (omega (arith, y.0))) (λ y. omega (arith, y.1)) (inhaled_was h k l w);
    }

-- At an exhale -----------------------------------------------------------------------------------

-- what a slot shows of c, and how c is due after it
abbrev pub Departs : Switch → List Cell → Cell → ℕ → Type 0
Departs w cs c s = Leaves c s w (exhaled w.ports cs) × Due c s (suc w.next.0) (exhale w.ports cs)

module _ (w : Switch) {t : Slot} {cs : List Cell} (f : Fit w.ports t cs) (c : Cell) where
  abbrev list : List ℕ
  list = exhaled w.ports cs

  -- record k has c's slot and input, and is emitted at output o
  record Shows (o : ℕ) : Type 0 where
    number : ℕ
    below : number < length cs
    emitted : So (is_emitted w.ports cs number)
    output : (nth cs number).output.0 ≡ o
    entered : (nth cs number).entered.0 ≡ c.entered.0
    input : (nth cs number).input.0 ≡ c.input.0
    lives : 1 ≤ (nth cs number).place

  -- a shown cell is an emitted record
  shows : (o : ℕ) → o < w.ports → So (emits list o) → So (same_input (emitted list o).input c.input) → So (same_slot (emitted list o).entered c.entered)
      → Shows o
  unfolding same_input same_slot
  shows o l x i e =
      let k = shown→ w.ports cs o l x in
      record {
        number = k.0;
        below = k.1;
        emitted = k.2;
        output = k.3;
        entered = entered≡ (sym k.4) ∙ eqb-true _ _ e;
        input = input≡ (sym k.4) ∙ eqb-true _ _ i;
        lives = omega (arith, (emitted→ w.ports cs k.0 k.2).ready);
      }

  -- what is live after the exhale, with its slot and input, was so before
  was : (q : ℕ) → q < length (exhale w.ports cs) → 1 ≤ (nth (exhale w.ports cs) q).place
      → (nth (exhale w.ports cs) q).entered.0 ≡ c.entered.0 → (nth (exhale w.ports cs) q).input.0 ≡ c.input.0
      → (q < length cs) × No (is_emitted w.ports cs q) × (1 ≤ (nth cs q).place) × ((nth cs q).entered.0 ≡ c.entered.0) × ((nth cs q).input.0 ≡ c.input.0)
  was q l v e i =
      let m : q < length cs = omega (arith, length-exhale w.ports cs) in
      let k = exhale-left w.ports cs q m v in
      (m, k.0, rw k.1 at v, rw k.1 at e, rw k.1 at i)

  -- what is gone stays gone, and is not shown
  pub gone-exhale : (s : ℕ) → s < w.next.0 → Gone c cs → Departs w cs c s
  gone-exhale s late g = (
    record {
      then = λ e. absurd (omega arith);
      once = λ o l x i e. let k = shows o l x i e in absurd (g k.number k.below k.lives k.entered k.input);
    },
    inr (omega arith, λ q l v e i. let k = was q l v e i in g q k.0 k.2 k.3 k.4),
  )

  module _ {q : ℕ} (l : q < length cs) (y : Stays c (nth cs q)) where
    -- a record with c's slot and input is q
    mine : (k : ℕ) → k < length cs → 1 ≤ (nth cs k).place → (nth cs k).entered.0 ≡ c.entered.0 → (nth cs k).input.0 ≡ c.input.0 → k ≡ q
    mine k m v e i = f.apart k q m l v y.lives (e ∙ sym y.same.entered) (i ∙ sym y.same.input)

    shown_mine : {o : ℕ} (k : Shows o) → k.number ≡ q
    shown_mine k = mine k.number k.below k.lives k.entered k.input

    -- with none before it
    pub first-exhale : (s : ℕ) → w.next.0 ≡ s → So (is_emitted w.ports cs q) → Departs w cs c s
    first-exhale s now x = (
      record {
        then = λ e. subst (λ (o : ℕ). So (emits list o) × So (same (emitted list o) c)) y.same.output own;
        once = λ o m z i e. let k = shows o m z i e in (now, sym k.output ∙ ap (λ (j : ℕ). (nth cs j).output.0) (shown_mine k) ∙ y.same.output);
      },
      inr (omega (arith, now), gone),
    )
      where
        own : So (emits list (nth cs q).output.0) × So (same (emitted list (nth cs q).output.0) c)
        own = let a = shown w.ports cs q x in (a.0, rw a.1 (→same (nth cs q) c y.same))

        gone : Gone c (exhale w.ports cs)
        gone k m v e i =
            let b = was k m v e i in
            refuted x (subst (λ j. No (is_emitted w.ports cs j)) (mine k b.0 b.2 b.3 b.4) b.1)

    -- with some before it
    pub later_exhale : (s e : ℕ) → suc e + w.next.0 ≡ s → No (is_emitted w.ports cs q) → elders (exhale w.ports cs) c ≡ e → Departs w cs c s
    later_exhale s e z x b = (
      record {
        then = λ n. absurd (omega arith);
        once = λ o m v i g.
            let k = shows o m v i g in
            absurd (refuted (subst (λ j. So (is_emitted w.ports cs j)) (shown_mine k) k.emitted) x);
      },
      inl (record {
        number = q;
        below = omega (arith, length-exhale w.ports cs);
        stays = rw (exhale_kept w.ports cs q l x) y;
        turn = omega (arith, b);
      }),
    )
