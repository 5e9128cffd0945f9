-- The exhale: each output with a ready cell emits one, the first by slot and then input; its record becomes free and the others stay.
-- Assumes nothing.
use Rattle.std.specs.Prelude.{◌≡◌, refl, ◌⊎◌, List, ℕ, ◌≤◌, ◌<◌, ltb, length, Option, Some, None}
use Rattle.std.proofs.Math.Path.{ap}
use Rattle.std.proofs.Common.{◌∙◌, inl, inr, ⊎_elim, arith, eq-zero-or-pos}
use Rattle.std.proofs.Math.Bool.{So, cond}
use Rattle.std.proofs.lemmas.Bool.{false≢true}
use borrow.Author.Tests.{eqb-true, ltb-true, lt-ltb}
use Rattle.laws.specs.Tests.{No, passes, both, join, cond_true, cond_false, eqb_self}
use Rattle.laws.specs.Order.{strict_on}
use Rattle.laws.specs.Least.{Least, least_is, is_at}
use Rattle.laws.specs.Lists.{length-tabulate, get_or-tabulate}
use Rattle.rules.specs.declared.Output.{Output}
use Rattle.rules.specs.declared.Slot.{Slot}
use Rattle.rules.specs.declared.Cell.{Cell}
use Rattle.rules.specs.Cells.{output_of, free, nth, is_ready_for, older}
use Rattle.rules.specs.Phases.{oldest_ready, is_emitted, exhale}
use Rattle.ideal.specs.Cells.{place≡, ready_for→, →ready_for, older_strict}
use Rattle.ideal.specs.Fit.{Fit, Stays, stays_refl, fit-part}

-- what is found for an output: the first of its ready records, by slot and then input
abbrev pub OldestReady : List Cell → Output → Option ℕ → Type 0
OldestReady cs o x = Least (λ k. is_ready_for o (nth cs k)) (λ i j. older (nth cs i) (nth cs j)) (length cs) x

pub oldest_is : (cs : List Cell) (o : Output) → OldestReady cs o (oldest_ready cs o)
unfolding oldest_ready
oldest_is cs o = least_is (λ k. is_ready_for o (nth cs k)) (λ i j. older (nth cs i) (nth cs j)) (strict_on older older_strict (nth cs)) (length cs)

-- record k is what its output emits: the first of its ready records
pub record FirstReady (n : ℕ) (cs : List Cell) (k : ℕ) : Type 0 where
  pub below : k < length cs
  pub ready : (nth cs k).place ≡ 2
  pub output : (nth cs k).output.0 < n
  pub first : (j : ℕ) → j < length cs → So (is_ready_for (nth cs k).output (nth cs j)) → No (older (nth cs j) (nth cs k))

module _ (n : ℕ) (cs : List Cell) where
  pub emitted→ : (k : ℕ) → So (is_emitted n cs k) → FirstReady n cs k
  unfolding is_emitted
  emitted→ k h =
      let b = both (ltb (nth cs k).output.0 n) _ h in
      go (ltb-true _ _ b.0) (oldest_ready cs (nth cs k).output) (oldest_is cs (nth cs k).output) b.1
    where
      go : (nth cs k).output.0 < n → (x : Option ℕ) → OldestReady cs (nth cs k).output x → So (is_at k x) → FirstReady n cs k
      go l None s x = absurd (false≢true x)
      go l (Some j) s x =
          let e : k ≡ j = eqb-true k j x in
          record {
            below = rw e s.0;
            ready = ap (λ (i : ℕ). (nth cs i).place) e ∙ (ready_for→ (nth cs k).output (nth cs j) s.1).0;
            output = l;
            first = λ i m y. ap (λ (q : ℕ). older (nth cs i) (nth cs q)) e ∙ s.2 i m y;
          }

  -- what an output below n finds is emitted there
  pub found-emitted : (o : Output) (k : ℕ) → o.0 < n → oldest_ready cs o ≡ Some k → OldestReady cs o (Some k) → So (is_emitted n cs k)
  unfolding is_emitted
  found-emitted o k l e s =
      let q = (ready_for→ o (nth cs k) s.1).1 in
      join (ltb (nth cs k).output.0 n) _ (lt-ltb _ n (omega arith)) (ap (λ (i : ℕ). is_at k (oldest_ready cs (output_of i))) q ∙ ap (is_at k) e ∙ eqb_self k)

  -- an output below n with a ready record emits one
  pub some_emitted : (j : ℕ) → j < length cs → (nth cs j).place ≡ 2 → (nth cs j).output.0 < n
      → (k : ℕ) × (k < length cs) × So (is_emitted n cs k) × ((nth cs k).output.0 ≡ (nth cs j).output.0)
  some_emitted j i w l = go (oldest_ready cs (nth cs j).output) refl (oldest_is cs (nth cs j).output)
    where
      go : (x : Option ℕ) → oldest_ready cs (nth cs j).output ≡ x → OldestReady cs (nth cs j).output x
          → (k : ℕ) × (k < length cs) × So (is_emitted n cs k) × ((nth cs k).output.0 ≡ (nth cs j).output.0)
      go None e s = absurd (s j i (→ready_for (nth cs j).output (nth cs j) w refl))
      go (Some k) e s = (k, s.0, found-emitted (nth cs j).output k l e s, (ready_for→ (nth cs j).output (nth cs k) s.1).1)

  pub length-exhale : length (exhale n cs) ≡ length cs
  unfolding exhale
  length-exhale = length-tabulate _ (length cs)

  pub nth-exhale : (k : ℕ) → k < length cs → nth (exhale n cs) k ≡ cond (is_emitted n cs k) free (nth cs k)
  unfolding exhale
  nth-exhale k l = get_or-tabulate (λ k. cond (is_emitted n cs k) free (nth cs k)) (length cs) free k l

  pub exhale_freed : (k : ℕ) → k < length cs → So (is_emitted n cs k) → nth (exhale n cs) k ≡ free
  exhale_freed k l x = nth-exhale k l ∙ cond_true (is_emitted n cs k) free (nth cs k) x

  pub exhale_kept : (k : ℕ) → k < length cs → No (is_emitted n cs k) → nth (exhale n cs) k ≡ nth cs k
  exhale_kept k l x = nth-exhale k l ∙ cond_false (is_emitted n cs k) free (nth cs k) x

  -- what is live after the exhale was not emitted, and is as it was
  pub exhale-left : (k : ℕ) → k < length cs → 1 ≤ (nth (exhale n cs) k).place → No (is_emitted n cs k) × (nth (exhale n cs) k ≡ nth cs k)
  exhale-left k l w = ⊎_elim (λ y. absurd (omega (arith, place≡ (exhale_freed k l y)))) (λ y. (y, exhale_kept k l y)) (passes (is_emitted n cs k))

pub exhale-fit : {n : ℕ} {t : Slot} {cs : List Cell} → Fit n t cs → Fit n t (exhale n cs)
exhale-fit {n} {t} {cs} f =
    fit-part f (length-exhale n cs)
    (λ k l. ⊎_elim (λ x. inl (exhale_freed n cs k l x)) (λ x. kept k l x (eq-zero-or-pos (nth cs k).place)) (passes (is_emitted n cs k)))
  where
    kept : (k : ℕ) → k < length cs → No (is_emitted n cs k) → ((nth cs k).place ≡ 0) ⊎ (0 < (nth cs k).place)
        → (nth (exhale n cs) k ≡ free) ⊎ Stays (nth cs k) (nth (exhale n cs) k)
    kept k l x (inl z) = inl (exhale_kept n cs k l x ∙ (f.each k l).blank z)
    kept k l x (inr w) = inr (rw (exhale_kept n cs k l x) (stays_refl (nth cs k) (f.each k l) w))
