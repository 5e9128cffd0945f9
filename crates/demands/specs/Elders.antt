-- The cells that stand before a cell, for its output: they stay while the table only takes in younger cells and moves some, and an exhale takes
-- one of them, or the cell itself where there are none.
-- Assumes nothing.
use Rattle.std.specs.Prelude.{◌≡◌, ◌⊎◌, List, ℕ, suc, ◌≤◌, ◌<◌}
use Rattle.std.proofs.Math.Path.{sym}
use Rattle.std.proofs.Common.{subst, ◌∙◌, inl, inr, eq-zero-or-pos}
use Rattle.std.proofs.Math.Logic.{⊎_elim}
use Rattle.std.proofs.Math.Bool.{So}
use native.Mathlib.Omega.{arith}
use Rattle.std.proofs.Math.ListN.{length}
use borrow.Author.Tests.{eqb-true, eq-eqb}
use Rattle.laws.specs.Tests.{No, passes, refuted, to_no, both, join}
use Rattle.laws.specs.Count.{count_more, count_hit, count_some, count_same}
use Rattle.laws.specs.Order.{lower→}
use Rattle.rules.specs.declared.Slot.{Slot}
use Rattle.rules.specs.declared.Cell.{Cell}
use Rattle.rules.specs.Cells.{most_ports, nth, same_output, older}
use Rattle.rules.specs.Phases.{is_emitted, exhale}
use Rattle.rules.specs.Demands.{is_elder, elders}
use Rattle.ideal.specs.Cells.{place≡, same_self, live→, →live, older-same, older_tie}
use Rattle.ideal.specs.Fit.{Fit, Stays}
use Rattle.ideal.specs.Phases.{Readied, readied_stays, readied_free}
use Rattle.ideal.specs.Exhale.{emitted→, length-exhale, exhale-left}
use Rattle.demands.specs.Ages.{age}
use Rattle.demands.specs.Led.{Led}
use Rattle.demands.specs.Steps.{takes_one}
use Rattle.demands.specs.Conserves.{works, orders}

module _ (c d : Cell) where
  pub elder→ : So (is_elder c d) → (1 ≤ d.place) × (d.output.0 ≡ c.output.0) × So (older d c)
  unfolding is_elder same_output
  elder→ h = let x = both _ _ h in let y = both _ _ x.0 in (live→ d y.0, eqb-true _ _ y.1, x.1)

  pub →elder : 1 ≤ d.place → d.output.0 ≡ c.output.0 → So (older d c) → So (is_elder c d)
  unfolding is_elder same_output
  →elder w o h = join _ _ (join _ _ (→live d w) (eq-eqb _ _ o)) h

  -- an older cell did not enter later
  pub older-entered : So (older d c) → d.entered.0 ≤ c.entered.0
  unfolding older
  older-entered h = ⊎_elim (λ x. omega arith) (λ x. omega (arith, x.0)) (lower→ _ _ _ h)

-- where none is counted there is none
pub no_elders : (cs : List Cell) (c : Cell) → elders cs c ≡ 0 → (k : ℕ) → k < length cs → So (is_elder c (nth cs k)) → ⊥
unfolding elders
no_elders cs c z k l x = omega (arith, z, count_hit (λ j. is_elder c (nth cs j)) (length cs) k l x)

-- Between exhales --------------------------------------------------------------------------------

-- from cs to us: what is live stays, and what is new entered in slot t or later
pub record Holds (t : ℕ) (cs us : List Cell) : Type 0 where
  pub long : length us ≡ length cs
  pub stays : (k : ℕ) → k < length cs → 1 ≤ (nth cs k).place → Stays (nth cs k) (nth us k)
  pub new : (k : ℕ) → k < length cs → (nth cs k).place ≡ 0 → 1 ≤ (nth us k).place → t ≤ (nth us k).entered.0

pub elders_hold : {t : ℕ} {cs us : List Cell} → Holds t cs us → (c : Cell) → c.entered.0 < t → elders us c ≡ elders cs c
unfolding elders
elders_hold {t} {cs} {us} h c early = rw h.long (count_same (λ k. is_elder c (nth us k)) (λ k. is_elder c (nth cs k)) (length cs) down up)
  where
    move : (k : ℕ) → Stays (nth cs k) (nth us k) → older (nth us k) c ≡ older (nth cs k) c
    move k s = older-same (nth us k) (nth cs k) c c s.same (same_self c)

    up : (k : ℕ) → k < length cs → So (is_elder c (nth cs k)) → So (is_elder c (nth us k))
    up k l x = let e = elder→ c (nth cs k) x in let s = h.stays k l e.0 in →elder c (nth us k) s.lives (s.same.output ∙ e.1) (move k s ∙ e.2)

    down : (k : ℕ) → k < length cs → So (is_elder c (nth us k)) → So (is_elder c (nth cs k))
    down k l x =
        let e = elder→ c (nth us k) x in
        ⊎_elim
        (λ z. absurd (omega (arith, h.new k l z e.0, older-entered c (nth us k) e.2)))
        (λ w. let s = h.stays k l w in →elder c (nth cs k) w (sym s.same.output ∙ e.1) (sym (move k s) ∙ e.2))
        (eq-zero-or-pos (nth cs k).place)

-- phases of any picking of waiting records
pub readied_holds : {n : ℕ} {τ : Slot} {cs us : List Cell} (t : ℕ) → Fit n τ cs → Readied cs us → Holds t cs us
readied_holds t f h = record {
  long = h.long;
  stays = λ k l w. readied_stays h k l (f.each k l) w;
  new = λ k l z w. absurd (omega (arith, place≡ (readied_free h k l z)));
}

-- At an exhale -----------------------------------------------------------------------------------

module _ {n : ℕ} {t : Slot} {cs : List Cell} (ports : n ≤ most_ports) (f : Fit n t cs) (led : Led (length cs) age (nth cs))
    {c : Cell} {q : ℕ} (l : q < length cs) (s : Stays c (nth cs q)) where
  as_c : (d : Cell) → older d (nth cs q) ≡ older d c
  as_c d = older-same d d (nth cs q) c (same_self d) s.same

  -- what its output emits is the cell itself, or one before it
  front : So (is_emitted n cs q) ⊎ ((k : ℕ) × (k < length cs) × So (is_emitted n cs k) × So (is_elder c (nth cs k)))
  front =
      let k = works f led q l s.lives in
      let w : 1 ≤ (nth cs k.0).place = omega (arith, (emitted→ n cs k.0 k.2).ready) in
      ⊎_elim
      (λ h. inr (k.0, k.1, k.2, →elder c (nth cs k.0) w (k.3 ∙ s.same.output) (sym (as_c (nth cs k.0)) ∙ h)))
      (λ h.
      let e = older_tie (nth cs k.0) (nth cs q) h (orders ports f led k.0 q k.2 l s.lives (sym k.3)) in
      inl (subst (λ j. So (is_emitted n cs j)) (f.apart k.0 q k.1 l w s.lives e.0 e.1) k.2))
      (passes (older (nth cs k.0) (nth cs q)))

  -- with no live one before it, the cell itself is emitted
  pub leaves_now : ((k : ℕ) → k < length cs → 1 ≤ (nth cs k).place → So (is_elder c (nth cs k)) → ⊥) → So (is_emitted n cs q)
  leaves_now none = ⊎_elim (λ x. x) (λ k. absurd (none k.0 k.1 (omega (arith, (emitted→ n cs k.0 k.2).ready)) k.3)) front

  -- with some before it, the cell stays, and one of them is emitted
  module _ (e : ℕ) (z : elders cs c ≡ suc e) where
    pub stays_behind : No (is_emitted n cs q)
    unfolding elders
    stays_behind =
        let j = count_some (λ j. is_elder c (nth cs j)) (length cs) (omega (arith, z)) in
        let b = elder→ c (nth cs j.0) j.2 in
        to_no (λ x. refuted (as_c (nth cs j.0) ∙ b.2) (orders ports f led q j.0 x j.1 b.0 (b.1 ∙ sym s.same.output)))

    gone : (k : ℕ) × (k < length cs) × So (is_emitted n cs k) × So (is_elder c (nth cs k))
    gone = ⊎_elim (λ x. absurd (refuted x stays_behind)) (λ k. k) front

    pub one_fewer : elders (exhale n cs) c ≡ e
    unfolding elders
    one_fewer =
        rw (length-exhale n cs)
        (omega (
          arith,
          z,
          count_more (λ j. is_elder c (nth (exhale n cs) j)) (λ j. is_elder c (nth cs j)) (length cs) sub gone.0 gone.1 gone.3
              (λ y. refuted gone.2 (left gone.0 gone.1 y).0),
          takes_one f (is_elder c) c.output.0 (λ d x. (elder→ c d x).1),
        ))
      where
        left : (j : ℕ) → j < length cs → So (is_elder c (nth (exhale n cs) j)) → No (is_emitted n cs j) × (nth (exhale n cs) j ≡ nth cs j)
        left j i y = exhale-left n cs j i (elder→ c (nth (exhale n cs) j) y).0

        sub : (j : ℕ) → j < length cs → So (is_elder c (nth (exhale n cs) j)) → So (is_elder c (nth cs j))
        sub j i y = rw (left j i y).1 at y
