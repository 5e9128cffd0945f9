-- Picking by masks: what a round of the code finds is what a round of the rules does, and what it keeps shows the cells picked so far.
-- Assumes nothing.
use Rattle.std.specs.Prelude.{◌≡◌, ◌⊎◌, Bool, ◌&&◌, eqb, get_or, set, Option, None}
use Rattle.std.proofs.Math.Path.{refl, sym, ap}
use Rattle.std.proofs.Common.{ap₂, ◌∙◌, inl, inr, add-suc, length-set, ext_get_or, get_or-set_same, get_or-set_other, eqb-true}
use Rattle.std.proofs.Math.Logic.{⊎_elim}
use Rattle.std.proofs.Math.Bool.{So, not}
use Rattle.std.proofs.lemmas.Bool.{false≢true, eqb-false}
use mathlib.Core.List.{List}
use Prim.Native.Nat.{ℕ, zero, suc, ◌+◌, ◌-◌, ◌≤◌, ◌<◌}
use native.Mathlib.Omega.{arith}
use Rattle.std.proofs.Math.Nat.{add-zero}
use Rattle.std.proofs.Math.ListN.{length}
use Rattle.laws.specs.Tests.{No, passes, refuted, to_no, both, join, denied, deny, same_test}
use Rattle.laws.specs.Walk.{over, over_more}
use Rattle.laws.specs.Count.{any, any→, →any}
use Rattle.laws.specs.Least.{least}
use Rattle.laws.proofs.Least.{least-same}
use Rattle.ports.specs.Ports.{has, Added}
use Rattle.ports.specs.PortLaws.{has-none}
use Rattle.rules.specs.declared.Cell.{Cell}
use Rattle.rules.specs.Cells.{most_ports, free, placed, nth, input_of, output_of, is_waiting, before, cells_of}
use Rattle.rules.specs.Phases.{conflict, is_open, first_open, none, add, add_found, round, match_of, is_taken_input, is_taken_output, moved}
use Rattle.words.specs.Words.{with_records}
use Rattle.words.proofs.Words.{with_long, with_cells, with_then, with_own}
use Rattle.ideal.specs.Cells.{waiting→, conflict→, by_input, by_output, conflict_self, Same, same_self, placed_same, before_same}
use Rattle.ideal.specs.Match.{in_add, to_add, self_add, open→, taken_in→, →taken_in, taken→, →taken}
use Rattle.ideal.specs.Phases.{length_moved, moved_yes, moved_no}
use Rattle.table.specs.Table.{stored}
use Rattle.queues.specs.declared.PairQueues.{PairQueues}
use Rattle.queues.specs.Queues.{All, Queues}
use Rattle.matching.specs.declared.Taken.{Taken}

-- a waiting cell whose input is not in the one set and whose output is in the other
unfoldable pub waits_among : (ℕ → Bool) → (ℕ → Bool) → Cell → Bool
waits_among ins outs c = is_waiting c && not (ins c.input.0) && outs c.output.0

-- one whose input and output are in neither set
unfoldable pub candidate : (ℕ → Bool) → (ℕ → Bool) → Cell → Bool
candidate ins outs c = waits_among ins (λ o. not (outs o)) c

-- of those, the one that stands before the others
unfoldable pub first_candidate : List ℕ → (ℕ → Bool) → (ℕ → Bool) → List Cell → Option ℕ
first_candidate r ins outs cs = least (λ k. candidate ins outs (nth cs k)) (λ i j. before r (nth cs i) (nth cs j)) (length cs)

-- The table us becomes vs, the taken ports q next, the inputs served ns ms: record k becomes ready, its ports are taken, its input is kept at its
-- output. The queues are those of the new table.
pub record Takes (us : List ℕ) (q : Taken) (ns : List ℕ) (k : ℕ) (vs : List ℕ) (qs : PairQueues) (next : Taken) (ms : List ℕ) : Type 0 where
  pub table : vs ≡ stored us k (placed 2 (nth (cells_of us) k))
  pub queues : Queues All (cells_of vs) qs
  pub inputs : Added q.inputs.mask (nth (cells_of us) k).input.0 next.inputs.mask
  pub outputs : Added q.outputs.mask (nth (cells_of us) k).output.0 next.outputs.mask
  pub served : ms ≡ set ns (nth (cells_of us) k).output.0 (nth (cells_of us) k).input.0

-- us, q and ns show that the records of p were picked from the table ws: they are ready, their ports are taken, their inputs are kept at their
-- outputs
pub record Shows (ws : List ℕ) (p : ℕ → Bool) (us : List ℕ) (q : Taken) (ns : List ℕ) : Type 0 where
  pub table : us ≡ with_records ws (moved p (cells_of ws))
  pub inputs : (i : ℕ) → has q.inputs.mask i ≡ is_taken_input p (cells_of ws) (input_of i)
  pub outputs : (o : ℕ) → has q.outputs.mask o ≡ is_taken_output p (cells_of ws) (output_of o)
  pub long : length ns ≡ most_ports
  pub served : (k : ℕ) → k < length (cells_of ws) → So (p k) → get_or ns (nth (cells_of ws) k).output.0 0 ≡ (nth (cells_of ws) k).input.0

-- the rounds of a phase show its match
pub record Picked (n : ℕ) (r ws us : List ℕ) (qs : PairQueues) (q : Taken) (ns : List ℕ) : Type 0 where
  pub shows : Shows ws (match_of n r (cells_of ws)) us q ns
  pub queues : Queues All (cells_of us) qs

-- What the code's masks say of a record -------------------------------------------------------------

module _ (cs : List Cell) (p : ℕ → Bool) where
  -- a candidate by the ports that the records of p take
  abbrev free_of : Cell → Bool
  free_of c = candidate (λ i. is_taken_input p cs (input_of i)) (λ o. is_taken_output p cs (output_of o)) c

  -- a record is open where it is a candidate by the taken ports
  open_masks : (k : ℕ) → k < length cs → No (p k) → is_open cs p k ≡ free_of (nth cs k)
  unfolding is_open candidate waits_among
  open_masks k l x = same_test _ _ to from
    where
      to : So (is_waiting (nth cs k) && not (any (λ j. p j && conflict (nth cs j) (nth cs k)) (length cs)))
          → So (is_waiting (nth cs k) && not (is_taken_input p cs (nth cs k).input) && not (is_taken_output p cs (nth cs k).output))
      to h =
          let b = both (is_waiting (nth cs k)) _ h in
          let clash : (d : ℕ) → d < length cs → So (p d) → So (conflict (nth cs d) (nth cs k)) → ⊥ =
          λ d i y c. refuted (→any (λ j. p j && conflict (nth cs j) (nth cs k)) (length cs) d i (join _ _ y c)) (denied _ b.1) in
          join _ _ (join _ _ b.0 (deny _ (to_no (λ y. let d = taken_in→ cs p (nth cs k).input y in clash d.0 d.1 d.2 (by_input _ _ d.3)))))
          (deny _ (to_no (λ y. let d = taken→ cs p (nth cs k).output y in clash d.0 d.1 d.2 (by_output _ _ d.3))))

      from : So (is_waiting (nth cs k) && not (is_taken_input p cs (nth cs k).input) && not (is_taken_output p cs (nth cs k).output))
          → So (is_waiting (nth cs k) && not (any (λ j. p j && conflict (nth cs j) (nth cs k)) (length cs)))
      from h =
          let a = both (is_waiting (nth cs k) && not (is_taken_input p cs (nth cs k).input)) _ h in
          let b = both (is_waiting (nth cs k)) _ a.0 in
          join _ _ b.0
          (deny _ (to_no (λ y.
          let d = any→ (λ j. p j && conflict (nth cs j) (nth cs k)) (length cs) y in
          let e = both (p d.0) _ d.2 in
          ⊎_elim
          (λ i. refuted (→taken_in cs p (nth cs k).input d.0 d.1 e.0 i) (denied _ b.1))
          (λ o. refuted (→taken cs p (nth cs k).output d.0 d.1 e.0 o) (denied _ a.1))
          (conflict→ _ _ e.1))))

  -- a picked record is not open, and as a ready one it is no candidate
  picked_shut : (k : ℕ) → k < length cs → So (p k) → No (is_open cs p k)
  picked_shut k l x = to_no (λ h. (open→ cs p k h).1 k l x (conflict_self (nth cs k)))

  open_moved : (k : ℕ) → k < length cs → free_of (nth (moved p cs) k) ≡ is_open cs p k
  unfolding candidate waits_among is_waiting
  open_moved k l =
      ⊎_elim
      (λ x. ap free_of (moved_yes p cs k l x) ∙ sym (picked_shut k l x))
      (λ x. ap free_of (moved_no p cs k l x) ∙ sym (open_masks k l x))
      (passes (p k))

  moved_same : (k : ℕ) → k < length cs → Same (nth (moved p cs) k) (nth cs k)
  moved_same k l =
      ⊎_elim
      (λ x. rw (moved_yes p cs k l x) (placed_same 2 (nth cs k)))
      (λ x. rw (moved_no p cs k l x) (same_self (nth cs k)))
      (passes (p k))

-- Rounds -------------------------------------------------------------------------------------------

-- the cells picked after i rounds
abbrev pub picks : List ℕ → List Cell → ℕ → ℕ → Bool
picks r cs i = over (λ j p. round r cs p) none i

module _ (r : List ℕ) (cs : List Cell) where
  pub picks_more : (i : ℕ) → picks r cs (i + 1) ≡ add_found (picks r cs i) (first_open r cs (picks r cs i))
  unfolding round
  picks_more i = over_more _ _ i

  stays : (i d : ℕ) → first_open r cs (picks r cs i) ≡ None → picks r cs (i + d) ≡ picks r cs i
  unfolding over round
  stays i zero h = rw add-zero
  stays i (suc d) h = rw (add-suc, stays i d h, h)

  -- where a round finds nothing, no later round does
  pub stops : (i n : ℕ) → i ≤ n → first_open r cs (picks r cs i) ≡ None → picks r cs i ≡ match_of n r cs
  unfolding match_of
  stops i n l h =
      let q : i + (n - i) ≡ n = omega arith in
      sym (rw q at (stays i (n - i) h))

  pub picks_all : (n : ℕ) → picks r cs n ≡ match_of n r cs
  unfolding match_of
  picks_all n = refl

candidate-same : (a b c d : ℕ → Bool) → ((i : ℕ) → a i ≡ b i) → ((i : ℕ) → c i ≡ d i) → (x : Cell) → candidate a c x ≡ candidate b d x
unfolding candidate waits_among
candidate-same a b c d e f x = rw (e x.input.0, f x.output.0)

module _ {ws : List ℕ} {p : ℕ → Bool} {us : List ℕ} {q : Taken} {ns : List ℕ} (s : Shows ws p us q ns) where
  abbrev cs : List Cell
  cs = cells_of ws

  shown_cells : cells_of us ≡ moved p (cells_of ws)
  shown_cells = with_cells ws (moved p cs) s.table (length_moved p cs)

  pub shown_long : length us ≡ length ws
  shown_long = with_long ws (moved p cs) s.table (length_moved p cs)

  -- what the scan of the code finds is what the rules' round picks
  pub finds : (r : List ℕ) → first_candidate r (has q.inputs.mask) (has q.outputs.mask) (cells_of us) ≡ first_open r (cells_of ws) p
  unfolding first_candidate first_open
  finds r =
      ap (λ (v : List Cell). first_candidate r (has q.inputs.mask) (has q.outputs.mask) v) shown_cells
      ∙ ap
      (least (λ k. candidate (has q.inputs.mask) (has q.outputs.mask) (nth (moved p cs) k)) (λ i j. before r (nth (moved p cs) i) (nth (moved p cs) j)))
      (length_moved p cs)
      ∙ least-same _ (is_open cs p) _ (λ i j. before r (nth cs i) (nth cs j)) (length cs)
      (λ k l. candidate-same (has q.inputs.mask) _ (has q.outputs.mask) _ s.inputs s.outputs (nth (moved p cs) k) ∙ open_moved cs p k l)
      (λ i j l m. before_same r _ _ _ _ (moved_same cs p i l) (moved_same cs p j m))

  pub cell_same : (k : ℕ) → k < length (cells_of ws) → Same (nth (cells_of us) k) (nth (cells_of ws) k)
  cell_same k l = rw shown_cells (moved_same cs p k l)

  pub length-shown : length (cells_of us) ≡ length (cells_of ws)
  length-shown = ap length shown_cells ∙ length_moved p cs

-- an open record is waiting, and was so
pub open_waits : (cs : List Cell) (p : ℕ → Bool) (k : ℕ) → So (is_open cs p k) → (nth cs k).place ≡ 1
open_waits cs p k h = waiting→ _ (open→ cs p k h).0

-- one more is picked
moved-add : (cs : List Cell) (p : ℕ → Bool) (k : ℕ) → k < length cs → set (moved p cs) k (placed 2 (nth (moved p cs) k)) ≡ moved (add p k) cs
moved-add cs p k l =
    ext_get_or free (set (moved p cs) k (placed 2 (nth (moved p cs) k))) (moved (add p k) cs)
    (length-set (moved p cs) k _ ∙ length_moved p cs ∙ sym (length_moved (add p k) cs))
    (λ j h. let m : j < length cs = omega (arith, length-set (moved p cs) k (placed 2 (nth (moved p cs) k)), length_moved p cs) in go j m (passes (eqb j k)))
  where
    here : nth (set (moved p cs) k (placed 2 (nth (moved p cs) k))) k ≡ placed 2 (nth cs k)
    here =
        get_or-set_same (moved p cs) k _ free (rw (length_moved p cs) l)
        ∙ ⊎_elim (λ x. ap (placed 2) (moved_yes p cs k l x)) (λ x. ap (placed 2) (moved_no p cs k l x)) (passes (p k))

    there : (j : ℕ) → j < length cs → (j ≡ k → ⊥) → nth (moved p cs) j ≡ nth (moved (add p k) cs) j
    there j m ne =
        ⊎_elim
        (λ x. moved_yes p cs j m x ∙ sym (moved_yes (add p k) cs j m (to_add p k j x)))
        (λ x. moved_no p cs j m x ∙ sym (moved_no (add p k) cs j m (to_no (λ y. ⊎_elim (λ z. refuted z x) ne (in_add p k j y)))))
        (passes (p j))

    go : (j : ℕ) → j < length cs → So (eqb j k) ⊎ No (eqb j k) → nth (set (moved p cs) k (placed 2 (nth (moved p cs) k))) j ≡ nth (moved (add p k) cs) j
    go j m (inl x) = let e : j ≡ k = eqb-true j k x in rw e (here ∙ sym (moved_yes (add p k) cs k l (self_add p k)))
    go j m (inr x) = get_or-set_other (moved p cs) k j _ free (eqb-false j k x) ∙ there j m (eqb-false j k x)

-- a set of ports with one more shows the set of records with one more
added_shown : (m a r : ℕ) (t u : ℕ → Bool) → Added m a r → ((i : ℕ) → has m i ≡ t i) → So (u a)
    → ((i : ℕ) → So (t i) → So (u i)) → ((i : ℕ) → So (u i) → So (t i) ⊎ (i ≡ a)) → (i : ℕ) → has r i ≡ u i
added_shown m a r t u h e here up down i =
    ⊎_elim
    (λ x. let q : i ≡ a = eqb-true i a x in ap (has r) q ∙ h.inside ∙ sym here ∙ ap u (sym q))
    (λ x. h.others i (eqb-false i a x) ∙ e i ∙ same_test (t i) (u i) (up i) (λ y. ⊎_elim (λ z. z) (λ z. absurd (eqb-false i a x z)) (down i y)))
    (passes (eqb i a))

module _ {ws : List ℕ} {p : ℕ → Bool} {us vs : List ℕ} {qs : PairQueues} {q next : Taken} {ns ms : List ℕ} (s : Shows ws p us q ns) (k : ℕ)
    (l : k < length (cells_of ws)) (o : So (is_open (cells_of ws) p k)) (t : Takes us q ns k vs qs next ms) where
  abbrev zs : List Cell
  zs = cells_of ws

  same : Same (nth (cells_of us) k) (nth zs k)
  same = cell_same s k l

  added_words : vs ≡ with_records ws (moved (add p k) zs)
  added_words =
      with_then ws (moved p zs) s.table (length_moved p zs) (moved (add p k) zs)
      (t.table ∙ ap (λ (cs : List Cell). with_records us (set cs k (placed 2 (nth cs k)))) (shown_cells s) ∙ ap (with_records us) (moved-add zs p k l))
      (length_moved (add p k) zs ∙ sym (length_moved p zs))

  added_input : (i : ℕ) → has next.inputs.mask i ≡ is_taken_input (add p k) zs (input_of i)
  added_input =
      added_shown _ _ _ (λ i. is_taken_input p zs (input_of i)) (λ i. is_taken_input (add p k) zs (input_of i)) (rw same.input at t.inputs) s.inputs
      (→taken_in zs (add p k) (nth zs k).input k l (self_add p k) refl)
      (λ i x. let d = taken_in→ zs p (input_of i) x in →taken_in zs (add p k) (input_of i) d.0 d.1 (to_add p k d.0 d.2) d.3)
      (λ i x.
      let d = taken_in→ zs (add p k) (input_of i) x in
      ⊎_elim
      (λ y. inl (→taken_in zs p (input_of i) d.0 d.1 y d.3))
      (λ y. inr (sym d.3 ∙ ap (λ (j : ℕ). (nth zs j).input.0) y))
      (in_add p k d.0 d.2))

  added_output : (i : ℕ) → has next.outputs.mask i ≡ is_taken_output (add p k) zs (output_of i)
  added_output =
      added_shown _ _ _ (λ i. is_taken_output p zs (output_of i)) (λ i. is_taken_output (add p k) zs (output_of i)) (rw same.output at t.outputs) s.outputs
      (→taken zs (add p k) (nth zs k).output k l (self_add p k) refl)
      (λ i x. let d = taken→ zs p (output_of i) x in →taken zs (add p k) (output_of i) d.0 d.1 (to_add p k d.0 d.2) d.3)
      (λ i x.
      let d = taken→ zs (add p k) (output_of i) x in
      ⊎_elim
      (λ y. inl (→taken zs p (output_of i) d.0 d.1 y d.3))
      (λ y. inr (sym d.3 ∙ ap (λ (j : ℕ). (nth zs j).output.0) y))
      (in_add p k d.0 d.2))

  sifted : ms ≡ set ns (nth zs k).output.0 (nth zs k).input.0
  sifted = t.served ∙ ap₂ (λ (a b : ℕ). set ns a b) same.output same.input

  -- an output that was served before is another one
  was : (j : ℕ) → j < length zs → So (p j) → get_or (set ns (nth zs k).output.0 (nth zs k).input.0) (nth zs j).output.0 0 ≡ (nth zs j).input.0
  was j m x =
      get_or-set_other ns (nth zs k).output.0 (nth zs j).output.0 (nth zs k).input.0 0 (λ e. (open→ zs p k o).1 j m x (by_output (nth zs j) (nth zs k) e))
      ∙ s.served j m x

  pub shows-add : (nth (cells_of ws) k).output.0 < most_ports → Shows ws (add p k) vs next ms
  shows-add small =
      record {
        table = added_words;
        inputs = added_input;
        outputs = added_output;
        long = ap length sifted ∙ length-set ns _ _ ∙ s.long;
        served = λ j m x.
            ap (λ (w : List ℕ). get_or w (nth zs j).output.0 0) sifted
            ∙ ⊎_elim
            (λ y. was j m y)
            (λ (y : j ≡ k). rw y (get_or-set_same ns (nth zs k).output.0 (nth zs k).input.0 0 (rw s.long small)))
            (in_add p k j x);
      }

-- nothing is picked yet
pub shows-none : (ws : List ℕ) (q : Taken) (ns : List ℕ) → q.inputs.mask ≡ 0 → q.outputs.mask ≡ 0 → length ns ≡ most_ports → Shows ws none ws q ns
unfolding none
shows-none ws q ns i o l =
    let cs = cells_of ws in
    record {
      table = sym (with_own ws) ∙ ap (with_records ws) (ext_get_or free cs (moved none cs) (sym (length_moved none cs)) (λ k m. sym (moved_no none cs k m refl)));
      inputs = λ a. ap (λ (m : ℕ). has m a) i ∙ has-none a ∙ sym (to_no (λ x. let d = taken_in→ cs none (input_of a) x in false≢true d.2));
      outputs = λ a. ap (λ (m : ℕ). has m a) o ∙ has-none a ∙ sym (to_no (λ x. let d = taken→ cs none (output_of a) x in false≢true d.2));
      long = l;
      served = λ k m x. absurd (false≢true x);
    }
