-- The conditions of the published model, with document 01's ties, allow nothing else: the same cells enter, move and leave.
-- Assumes nothing.
use Rattle.std.specs.Prelude.{◌≡◌, refl, Bool, not, ◌&&◌, ◌||◌, List, ℕ, zero, suc, ◌≤◌, ◌<◌, ltb, length, Option, Some, None}
use Rattle.std.proofs.Common.{sym, ap₂, subst, ◌∙◌, ⊎_elim, arith}
use Rattle.std.proofs.Math.Bool.{So}
use Rattle.laws.specs.Tests.{passes, refuted, to_no, both, join, denied, deny, same_test}
use Rattle.laws.specs.Choice.{Choice, choice_unique}
use Rattle.laws.specs.Count.{count_into}
use Rattle.laws.specs.Least.{Least, lowest}
use Rattle.laws.proofs.Least.{lowest_is}
use Rattle.laws.specs.Lists.{tabulate-same}
use Rattle.rules.specs.declared.Output.{Output}
use Rattle.rules.specs.declared.Slot.{Slot}
use Rattle.rules.specs.declared.Cell.{Cell}
use Rattle.rules.specs.Cells.{most_ports, output_of, nth, is_live, is_ready, is_ready_for, same_output, before}
use Rattle.rules.specs.Phases.{conflict, ready_count, readings}
use Rattle.rules.specs.Model.{same, input_buffer, output_buffer, Inhale, Transfer, Exhale, Slotted}
use Rattle.ideal.specs.Cells.{→live, →ready, ready→, ready_for→, →ready_for, same→, same_refl, same_sym, same_trans, conflict→, before_other, older_tie}
use Rattle.ideal.specs.Fit.{Fit}
use Rattle.ideal.specs.Match.{earlier, earlier_less}
use Rattle.ideal.specs.Meets.{among_same, input→, output→, →output, output_eq, eq_output, eq_input}

-- Buffers that hold the same cells
pub record Alike (t u : List Cell) : Type 0 where
  pub inputs : (c : Cell) → input_buffer t c ≡ input_buffer u c
  pub outputs : (c : Cell) → output_buffer t c ≡ output_buffer u c

-- Enter ------------------------------------------------------------------------------------------

pub inhale_only : {b : Slot} {h : Cell → Bool} {t u v : List Cell} → Inhale b h t u → Inhale b h t v → Alike u v
inhale_only x y = record { inputs = λ c. x.arrive c ∙ sym (y.arrive c); outputs = λ c. x.output_kept c ∙ sym (y.output_kept c) }

-- Move -------------------------------------------------------------------------------------------

-- the transferred cells are a choice among those in the input buffer
transfer_choice : {r : List ℕ} {x : Cell → Bool} {t u : List Cell} (t' : List Cell) → Transfer r x t u → ((c : Cell) → input_buffer t c ≡ input_buffer t' c)
    → Choice (λ c. So (input_buffer t' c)) conflict (before r) x
transfer_choice {r} {x} t' a e =
    record {
      apart = λ d c i j h k f b.
          before_other r d c b (⊎_elim (λ q. a.per_input d c h k (eq_input d c q)) (λ q. a.per_output d c h k (eq_output d c q)) (conflict→ d c f));
      beaten = λ c i h. let d = a.matching c (e c ∙ i) h in (d.0, sym (e d.0) ∙ a.subset d.0 d.1, d.1, d.2, d.3);
    }

pub alike_sym : {t u : List Cell} → Alike t u → Alike u t
alike_sym e = record { inputs = λ c. sym (e.inputs c); outputs = λ c. sym (e.outputs c) }

module _ {r : List ℕ} {x y : Cell → Bool} {t t' u v : List Cell} (a : Transfer r x t u) (b : Transfer r y t' v) (e : Alike t t') where
  pub transfer_only : (c : Cell) → x c ≡ y c
  transfer_only c =
      ⊎_elim
      (λ i. choice_unique (earlier r t) less (transfer_choice t a (λ c. refl)) (transfer_choice t b (λ c. sym (e.inputs c))) c i)
      (λ i. to_no (λ h. refuted (a.subset c h) i) ∙ sym (to_no (λ h. refuted (e.inputs c ∙ b.subset c h) i)))
      (passes (input_buffer t c))
    where
      less : (d c : Cell) → So (input_buffer t d) → So (before r d c) → earlier r t d < earlier r t c
      less d c i h = let k = input→ t d i in earlier_less r t d c k.0 k.1 k.3 h

  pub transfer_alike : Alike u v
  transfer_alike =
      record {
        inputs = λ c. a.depart c ∙ ap₂ (λ (p q : Bool). p && not q) (e.inputs c) (transfer_only c) ∙ sym (b.depart c);
        outputs = λ c. a.arrive c ∙ ap₂ (λ (p q : Bool). p || q) (e.outputs c) (transfer_only c) ∙ sym (b.arrive c);
      }

-- Leave ------------------------------------------------------------------------------------------

-- of the cells in an output buffer no two have the same slot and the same input
pub record Distinct (t : List Cell) : Type 0 where
  pub told : (c d : Cell) → So (output_buffer t c) → So (output_buffer t d) → c.entered.0 ≡ d.entered.0 → c.input.0 ≡ d.input.0 → So (same c d)

pub fit_distinct : {n : ℕ} {b : Slot} {t : List Cell} → Fit n b t → Distinct t
fit_distinct {t = t} f =
    record {
      told = λ c d x y s i.
          let j = output→ t c x in
          let k = output→ t d y in
          let p = same→ _ c j.3 in
          let q = same→ _ d k.3 in
          let m : j.0 ≡ k.0 = f.apart j.0 k.0 j.1 k.1 (omega (arith, j.2)) (omega (arith, k.2)) (omega arith) (omega arith) in
          same_trans c (nth t j.0) d (same_sym _ c j.3) (rw m k.3);
    }

-- an exhaled cell is exhaled under every name that it has
exhaled-same : {e : Cell → Bool} {t u : List Cell} → Exhale e t u → (c d : Cell) → So (same c d) → So (output_buffer t d) → So (e c) → So (e d)
unfolding output_buffer
exhaled-same {e} {t} {u} a c d s i h =
    ⊎_elim (λ k. k)
    (λ k.
    let stays : So (output_buffer u d) = a.depart d ∙ join _ _ i (deny _ k) in
    let still : So (output_buffer t c && not (e c)) = sym (a.depart c) ∙ among_same _ u d c (same_sym c d s) stays in
    absurd (refuted h (denied _ (both (output_buffer t c) _ still).1)))
    (passes (e d))

leaves_too : {e g : Cell → Bool} {t t' u v : List Cell} → Exhale e t u → Exhale g t' v → Alike t t' → Distinct t → (c : Cell) → So (e c) → So (g c)
leaves_too {e} {g} {t} {t'} a b s f c h = go (b.work c (sym (s.outputs c) ∙ a.subset c h))
  where
    go : (d : Cell) × So (g d) × So (same_output d.output c.output) → So (g c)
    go d =
        let inside : So (output_buffer t d.0) = s.outputs d.0 ∙ b.subset d.0 d.1 in
        let there : So (output_buffer t' c) = sym (s.outputs c) ∙ a.subset c h in
        let o : d.0.output.0 ≡ c.output.0 = output_eq d.0 c d.2 in
        let tie = older_tie c d.0 (b.order d.0 c d.1 there d.2) (a.order c d.0 h inside (eq_output c d.0 (sym o))) in
        exhaled-same b d.0 c (same_sym c d.0 (f.told c d.0 (a.subset c h) inside tie.0 tie.1)) there d.1

distinct_alike : {t t' : List Cell} → Alike t t' → Distinct t → Distinct t'
distinct_alike s f = record { told = λ c d x y e i. f.told c d (s.outputs c ∙ x) (s.outputs d ∙ y) e i }

module _ {e g : Cell → Bool} {t t' u v : List Cell} (a : Exhale e t u) (b : Exhale g t' v) (s : Alike t t') (f : Distinct t) where
  pub exhale_only : (c : Cell) → e c ≡ g c
  exhale_only c = same_test (e c) (g c) (leaves_too a b s f c) (leaves_too b a (alike_sym s) (distinct_alike s f) c)

  pub exhale_alike : Alike u v
  exhale_alike =
      record {
        inputs = λ c. a.input_kept c ∙ s.inputs c ∙ sym (b.input_kept c);
        outputs = λ c. a.depart c ∙ ap₂ (λ (p q : Bool). p && not q) (s.outputs c) (exhale_only c) ∙ sym (b.depart c);
      }

-- The reading ------------------------------------------------------------------------------------

-- no cell stands in two records
unfoldable pub Single : List Cell → Type 0
Single t = (j k : ℕ) → j < length t → k < length t → So (is_live (nth t j)) → So (is_live (nth t k)) → So (same (nth t j) (nth t k)) → j ≡ k

-- the record of u that holds a cell, if any does
place_of : List Cell → Cell → Option ℕ
place_of u c = lowest (λ k. is_ready (nth u k) && same (nth u k) c) (length u)

number : Option ℕ → ℕ
number (Some k) = k
number None = 0

-- a ready record of u that holds c
HoldsReady : List Cell → Cell → ℕ → Type 0
HoldsReady u c k = (k < length u) × ((nth u k).place ≡ 2) × So (same (nth u k) c)

place_is : (u : List Cell) (c : Cell) → So (output_buffer u c) → HoldsReady u c (number (place_of u c))
unfolding place_of number HoldsReady
place_is u c h = go (place_of u c) (lowest_is (λ k. is_ready (nth u k) && same (nth u k) c) (length u))
  where
    go : (x : Option ℕ) → Least (λ k. is_ready (nth u k) && same (nth u k) c) ltb (length u) x → HoldsReady u c (number x)
    go (Some k) s = let b = both (is_ready (nth u k)) _ s.1 in (s.0, ready→ _ b.0, b.1)
    go None s = let k = output→ u c h in absurd (s k.0 k.1 (join _ _ (→ready _ k.2) k.3))

reading_le : (t u : List Cell) → Alike t u → Single t → (o : Output) → ready_count t o ≤ ready_count u o
unfolding ready_count Single HoldsReady
reading_le t u e f o =
    count_into (λ k. is_ready_for o (nth t k)) (λ k. number (place_of u (nth t k))) (length u) (length t) (λ k. is_ready_for o (nth u k))
    (λ k l x. let r = ready_for→ o (nth t k) x in let p = place k l r.0 in (p.0, →ready_for o _ p.1 ((same→ _ _ p.2).output ∙ r.1)))
    (λ j k hj hk x y q.
    let a = ready_for→ o (nth t j) x in
    let b = ready_for→ o (nth t k) y in
    f j k hj hk (→live _ (omega (arith, a.0))) (→live _ (omega (arith, b.0)))
    (same_trans _ _ _ (same_sym _ _ (place j hj a.0).2) (subst (λ (i : ℕ). So (same (nth u i) (nth t k))) (sym q) (place k hk b.0).2)))
  where
    place : (k : ℕ) → k < length t → (nth t k).place ≡ 2 → HoldsReady u (nth t k) (number (place_of u (nth t k)))
    place k l w = place_is u (nth t k) (sym (e.outputs (nth t k)) ∙ →output t (nth t k) k l w (same_refl (nth t k)))

pub reading_alike : (t u : List Cell) → Alike t u → Single t → Single u → readings t ≡ readings u
unfolding readings
reading_alike t u e f g =
    tabulate-same 0 (λ o. ready_count t (output_of o)) (λ o. ready_count u (output_of o)) most_ports
    (λ o l. omega (arith, reading_le t u e f (output_of o), reading_le u t (alike_sym e) g (output_of o)))

-- A slot -----------------------------------------------------------------------------------------

-- from one table and the same arriving cells: in each phase the same cells move, and the same cells leave
module _ {s : ℕ} {b : Slot} {h : Cell → Bool} {x y : ℕ → Cell → Bool} {e g : Cell → Bool} {t u v : List Cell} {step step' : ℕ → List Cell}
    (a : Slotted s b h x e t step u) (c : Slotted s b h y g t step' v) where
  one_reading : readings (step 0) ≡ readings (step' 0)
  unfolding Single
  one_reading = reading_alike (step 0) (step' 0) (inhale_only a.inhales c.inhales) a.single c.single

  other : (j : ℕ) → j < s → Transfer (readings (step 0)) (y j) (step' j) (step' (suc j))
  other j l = rw one_reading (c.transfers j l)

  slot_alike : (j : ℕ) → j ≤ s → Alike (step j) (step' j)
  slot_alike zero l = inhale_only a.inhales c.inhales
  slot_alike (suc j) l = transfer_alike (a.transfers j l) (other j l) (slot_alike j (omega arith))

  pub slot-moves : (j : ℕ) → j < s → (d : Cell) → x j d ≡ y j d
  slot-moves j l d = transfer_only (a.transfers j l) (other j l) (slot_alike j (omega arith)) d

  pub slot_leaves : Distinct (step s) → (d : Cell) → e d ≡ g d
  slot_leaves f d = exhale_only a.exhales c.exhales (slot_alike s (omega arith)) f d

  pub slot_leaves_alike : Distinct (step s) → Alike u v
  slot_leaves_alike f = exhale_alike a.exhales c.exhales (slot_alike s (omega arith)) f
