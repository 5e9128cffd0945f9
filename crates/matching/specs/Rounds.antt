-- A round by the queues' heads: the outputs with the lowest reading among those that can be served, kept from round to round, the first cell for
-- each, the first of these.
-- Assumes nothing.
use Prim.Native.Nat.{ℕ, ◌+◌, ◌^◌, ◌≤◌, ◌<◌}
use Rattle.std.specs.Prelude.{◌≡◌, ◌⊎◌, Bool, true, false, cond, ◌&&◌, List, ltb, set, Option, Some, None}
use Rattle.std.specs.Option.{is_some}
use Rattle.std.proofs.Math.Path.{refl, ap}
use Rattle.std.proofs.Common.{sym, ◌∙◌, subst, inl, arith}
use Rattle.std.proofs.Math.Logic.{inr, ⊎_elim}
use Rattle.std.proofs.Math.Bool.{So, not}
use Rattle.std.proofs.lemmas.Bool.{false≢true}
use Rattle.std.proofs.Math.Dec.{eqb}
use Rattle.std.proofs.Math.ListN.{length, length-set}
use borrow.Author.Tests.{eqb-true, eqb-false, eq-eqb, ltb-true, ltb-false}
use Rattle.laws.specs.Tests.{No, passes, refuted, to_no, both, join, denied, deny, same_test}
use Rattle.laws.specs.Walk.{over_zero}
use Rattle.laws.specs.Count.{any, any→, →any}
use Rattle.laws.specs.Order.{lower_below, lower_equal, ranks_on}
use Rattle.laws.specs.Least.{least, Below}
use Rattle.laws.specs.First.{Ahead, First, first_found, first_alike, first_below, least_first}
use Rattle.laws.proofs.First.{first-least}
use Rattle.laws.specs.SetWalk.{also, FirstIn, LowestOf, lowest_skip, lowest-fresh, lowest_tie, lowest-above, lowest-nobody, nobody}
use Rattle.laws.proofs.SetWalk.{first_visit}
use Rattle.ports.specs.declared.Tied.{Tied}
use Rattle.ports.specs.Ports.{mask_ports, has, with_port, set_of, lowered, Except}
use Rattle.ports.specs.PortLaws.{has-none, has-nobody, none_inside, added, added_also, added_kept, except_in, except_out}
use Rattle.rules.specs.declared.Cell.{Cell}
use Rattle.rules.specs.Cells.{most_ports, placed, nth, output_of, is_waiting, older, before, reading_for, cells_of}
use Rattle.rules.specs.Phases.{is_open, first_open}
use Rattle.words.specs.Words.{length-cells_of, same-records}
use Rattle.ideal.specs.Match.{open_found}
use Rattle.ideal.specs.Phases.{placed_waits}
use Rattle.ideal.specs.Cells.{waiting→, older_ranks, before_ranks}
use Rattle.queues.specs.declared.PairQueues.{PairQueues}
use Rattle.queues.specs.Layout.{named, named_name, is_found, head_word, senders, wanted}
use Rattle.queues.specs.Queues.{waits_for, waits→, →waits, head_below, head_of, All, Queues}
use Rattle.table.specs.Table.{older_at, cells_of-stored}
use Rattle.queues.specs.Heads.{head_below_lem}
use Rattle.matching.specs.declared.Taken.{Taken}
use Rattle.matching.specs.Ready.{LinedUp, Orderly, Takeable}
use Rattle.matching.specs.Picking.{waits_among, candidate, first_candidate, Takes, Shows, Picked}
use Rattle.matching.specs.Picking.{picks, picks_more, picks_all, stops, open_waits}
use Rattle.matching.specs.Picking.{finds, cell_same, length-shown, shown_long, shows-add, shows-none}

-- record i stands before record j
abbrev before_at : List ℕ → List Cell → ℕ → ℕ → Bool
before_at r cs i j = before r (nth cs i) (nth cs j)

-- x is the first by age of the records that pass a test; by reading and age, of the candidates
abbrev Oldest : List Cell → (Cell → Bool) → Option ℕ → Type 0
Oldest cs test x = First (λ k. test (nth cs k)) (older_at cs) (length cs) x

abbrev FirstCandidate : List ℕ → (ℕ → Bool) → (ℕ → Bool) → List Cell → Option ℕ → Type 0
FirstCandidate r ins outs cs x = First (λ k. candidate ins outs (nth cs k)) (before_at r cs) (length cs) x

-- of the waiting cells whose inputs are not in the one set and whose outputs are in the other, the oldest
unfoldable pub first_among : (ℕ → Bool) → (ℕ → Bool) → List Cell → Option ℕ
first_among ins outs cs = least (λ k. waits_among ins outs (nth cs k)) (older_at cs) (length cs)

-- a waiting cell for output o whose input is not in the set
unfoldable pub waits_on : (ℕ → Bool) → ℕ → Cell → Bool
waits_on ins o c = waits_among ins (λ p. eqb p o) c

-- of those, the oldest
unfoldable pub first_for : (ℕ → Bool) → ℕ → List Cell → Option ℕ
first_for ins o cs = least (λ k. waits_on ins o (nth cs k)) (older_at cs) (length cs)

-- there is one
unfoldable pub is_servable : (ℕ → Bool) → ℕ → List Cell → Bool
is_servable ins o cs = any (λ k. waits_on ins o (nth cs k)) (length cs)

module _ (ins outs : ℕ → Bool) (c : Cell) where
  among→ : So (waits_among ins outs c) → So (is_waiting c) × No (ins c.input.0) × So (outs c.output.0)
  unfolding waits_among
  among→ h =
      let a = both (is_waiting c && not (ins c.input.0)) _ h in
      let b = both (is_waiting c) _ a.0 in
      (b.0, denied _ b.1, a.1)

  →among : So (is_waiting c) → No (ins c.input.0) → So (outs c.output.0) → So (waits_among ins outs c)
  unfolding waits_among
  →among w n m = join _ _ (join _ _ w (deny _ n)) m

module _ (ins : ℕ → Bool) (o : ℕ) (c : Cell) where
  waits_on→ : So (waits_on ins o c) → So (is_waiting c) × No (ins c.input.0) × (c.output.0 ≡ o)
  unfolding waits_on
  waits_on→ h = let a = among→ ins (λ p. eqb p o) c h in (a.0, a.1, eqb-true c.output.0 o a.2)

  →waits_on : So (is_waiting c) → No (ins c.input.0) → c.output.0 ≡ o → So (waits_on ins o c)
  unfolding waits_on
  →waits_on w n e = →among ins (λ p. eqb p o) c w n (eq-eqb _ _ e)

module _ (ins outs : ℕ → Bool) (c : Cell) where
  candidate→ : So (candidate ins outs c) → So (is_waiting c) × No (ins c.input.0) × No (outs c.output.0)
  unfolding candidate
  candidate→ h = let a = among→ ins (λ o. not (outs o)) c h in (a.0, a.1, denied _ a.2)

  →candidate : So (is_waiting c) → No (ins c.input.0) → No (outs c.output.0) → So (candidate ins outs c)
  unfolding candidate
  →candidate w n m = →among ins (λ o. not (outs o)) c w n (deny _ m)

-- The head of a pair ----------------------------------------------------------------------------------

module _ (cs : List Cell) (i o : ℕ) where
  head_first : Oldest cs (waits_for i o) (head_of cs i o)
  unfolding head_below
  head_first = least_first (older_at cs) (ranks_on older older_ranks (nth cs)) (λ k. waits_for i o (nth cs k)) (length cs)

  -- there is a head where a cell of the pair waits
  found_head : (x : Option ℕ) → Oldest cs (waits_for i o) x → (k : ℕ) → k < length cs → So (waits_for i o (nth cs k)) → So (is_found x)
  found_head (Some j) h k l w = refl
  found_head None h k l w = absurd (h k l w)

  head_found : (x : Option ℕ) → Oldest cs (waits_for i o) x → So (is_found x) → (k : ℕ) × (k < length cs) × So (waits_for i o (nth cs k))
  head_found (Some j) h w = (j, h.0, h.1)
  head_found None h w = absurd (false≢true w)

module _ {cs : List Cell} {qs : PairQueues} (q : LinedUp cs qs) where
  -- what the queues say of a pair
  pub head_read : (i o : ℕ) → i < most_ports → o < most_ports → named (head_word qs i o) ≡ head_of cs i o
  head_read i o l m = ap named (q.heads.head i o l m tt) ∙ named_name (head_of cs i o)

  pub head_below_records : (i o : ℕ) → i < most_ports → o < most_ports → {n : ℕ} → length cs ≡ n → (x : Option ℕ) → x ≡ named (head_word qs i o) → Below n x
  head_below_records i o l m e x h = rw (h, head_read i o l m, ← e) (head_below_lem cs (length cs) i o)

  sends : (k : ℕ) → k < length cs → So (is_waiting (nth cs k)) → So (has (senders qs (nth cs k).output.0) (nth cs k).input.0)
  sends k l w =
      q.heads.sends (nth cs k).input.0 (nth cs k).output.0 (q.ports.inputs k l (waiting→ _ w)) (q.ports.outputs k l (waiting→ _ w)) tt
      ∙ found_head cs _ _ (head_of cs _ _) (head_first cs _ _) k l (→waits _ _ (nth cs k) w refl refl)

  sent : (i o : ℕ) → i < most_ports → o < most_ports → So (has (senders qs o) i) → (k : ℕ) × (k < length cs) × So (waits_for i o (nth cs k))
  sent i o l m h = head_found cs i o (head_of cs i o) (head_first cs i o) (sym (q.heads.sends i o l m tt) ∙ h)

  -- an output that can be served is wanted
  wants : (o : ℕ) (ins : ℕ → Bool) → So (is_servable ins o cs) → So (has (wanted qs) o)
  unfolding is_servable
  wants o ins h =
      let k = any→ (λ k. waits_on ins o (nth cs k)) (length cs) h in
      let w = waits_on→ ins o (nth cs k.0) k.2 in
      let i : ℕ = (nth cs k.0).input.0 in
      let in-port = q.ports.inputs k.0 k.1 (waiting→ _ w.0) in
      let out-port : o < most_ports = rw w.2 at (q.ports.outputs k.0 k.1 (waiting→ _ w.0)) in
      q.heads.wants i o in-port out-port tt
      (found_head cs i o (head_of cs i o) (head_first cs i o) k.0 k.1 (→waits i o (nth cs k.0) w.0 refl w.2))

  -- Whether an output can be served ---------------------------------------------------------------------

  module _ (ins o left : ℕ) (m : o < most_ports) (e : Except (senders qs o) ins left) where
    -- such a cell's input is in what is left of the senders
    left-has : (k : ℕ) → k < length cs → So (waits_on (has ins) o (nth cs k)) → So (has left (nth cs k).input.0)
    left-has k l h =
        let w = waits_on→ (has ins) o (nth cs k) h in
        e.each (nth cs k).input.0 ∙ join _ _ (subst (λ (p : ℕ). So (has (senders qs p) (nth cs k).input.0)) w.2 (sends k l w.0)) (deny _ w.1)

    is_servable_lem : left < 2 ^ mask_ports → (left ≡ 0 → ⊥) → So (is_servable (has ins) o cs)
    unfolding is_servable
    is_servable_lem small ne =
        ⊎_elim
        (λ x. x)
        (λ x. absurd (ne (none_inside left small (λ i l. to_no (λ h. none x i l h)))))
        (passes (any (λ k. waits_on (has ins) o (nth cs k)) (length cs)))
      where
        none : No (any (λ k. waits_on (has ins) o (nth cs k)) (length cs)) → (i : ℕ) → i < most_ports → So (has left i) → ⊥
        none x i l h =
            let b = both (has (senders qs o) i) _ (sym (e.each i) ∙ h) in
            let s = sent i o l m b.0 in
            let w = waits→ i o (nth cs s.0) s.2 in
            let here = →waits_on (has ins) o (nth cs s.0) w.0 (ap (has ins) w.1 ∙ denied _ b.1) w.2 in
            refuted (→any (λ k. waits_on (has ins) o (nth cs k)) (length cs) s.0 s.1 here) x

    not_servable : left ≡ 0 → No (is_servable (has ins) o cs)
    unfolding is_servable
    not_servable z =
        to_no (λ x.
        let k = any→ (λ k. waits_on (has ins) o (nth cs k)) (length cs) x in
        refuted (left-has k.0 k.1 k.2) (ap (λ (v : ℕ). has v (nth cs k.0).input.0) z ∙ has-none _))

    -- the test of the code
    pub servable_test : left < 2 ^ mask_ports → not (eqb left 0) ≡ is_servable (has ins) o cs
    servable_test small =
        ⊎_elim
        (λ x. ap not x ∙ sym (not_servable (eqb-true left 0 x)))
        (λ x. ap not x ∙ sym (is_servable_lem small (eqb-false left 0 x)))
        (passes (eqb left 0))

-- Walks over ports -------------------------------------------------------------------------------

-- found is the oldest of the cells for o, at inputs that are not in the one set and in the other
abbrev pub ForOutput : (ℕ → Bool) → ℕ → List Cell → (ℕ → Bool) → Option ℕ → Type 0
ForOutput ins o cs = FirstIn (λ k. waits_on ins o (nth cs k)) (λ k. (nth cs k).input.0) (older_at cs) (length cs)

-- found is the oldest of the cells for outputs of s, at inputs that are not in the one set, for outputs in the other
abbrev pub AmongOutputs : (ℕ → Bool) → ℕ → List Cell → (ℕ → Bool) → Option ℕ → Type 0
AmongOutputs ins s cs = FirstIn (λ k. waits_among ins (has s) (nth cs k)) (λ k. (nth cs k).output.0) (older_at cs) (length cs)

pub walk_below : (test : ℕ → Bool) (port : ℕ → ℕ) (cs : List Cell) {v : ℕ → Bool} {x : Option ℕ} → FirstIn test port (older_at cs) (length cs) v x
    → Below (length cs) x
walk_below test port cs {v} {x} f = first_below (λ k. test k && v (port k)) (older_at cs) (length cs) x f.first

-- every port of what passes the test was visited
walk_least : (test : ℕ → Bool) (port : ℕ → ℕ) (cs : List Cell) {v : ℕ → Bool} {x : Option ℕ} → ((k : ℕ) → k < length cs → So (test k) → So (v (port k)))
    → FirstIn test port (older_at cs) (length cs) v x → x ≡ least test (older_at cs) (length cs)
walk_least test port cs {v} {x} all f =
    first-least (older_at cs) (ranks_on older older_ranks (nth cs)) test (length cs) x
    (first_alike (λ k. test k && v (port k)) test _ _ (length cs)
    (λ k l. same_test _ (test k) (λ h. (both (test k) _ h).0) (λ h. join (test k) _ h (all k l h)))
    (λ j k l m a b. refl) x f.first)

module _ (ins : ℕ → Bool) (cs : List Cell) where
  -- an input that is not taken is visited: the head of its pair
  pub visit_input : (o : ℕ) {v : ℕ → Bool} {x : Option ℕ} (i : ℕ) → No (ins i) → ForOutput ins o cs v x
      → ForOutput ins o cs (also v i) (first_found (older_at cs) x (head_of cs i o))
  visit_input o i n f =
      first_visit (ranks_on older older_ranks (nth cs)) f i (λ k. waits_for i o (nth cs k))
      (λ k l. same_test _ _
      (λ h. let w = waits→ i o (nth cs k) h in join _ _ (→waits_on ins o (nth cs k) w.0 (ap ins w.1 ∙ n) w.2) (eq-eqb _ _ w.1))
      (λ h.
      let b = both (waits_on ins o (nth cs k)) _ h in
      let w = waits_on→ ins o (nth cs k) b.0 in
      →waits i o (nth cs k) w.0 (eqb-true _ _ b.1) w.2))
      (head_of cs i o) (head_first cs i o)

  first_for_lem : (o : ℕ) → Oldest cs (waits_on ins o) (first_for ins o cs)
  unfolding first_for
  first_for_lem o = least_first (older_at cs) (ranks_on older older_ranks (nth cs)) (λ k. waits_on ins o (nth cs k)) (length cs)

  -- an output of the set is visited: the first cell for it
  pub visit_output : (s : ℕ) {v : ℕ → Bool} {x : Option ℕ} (o : ℕ) → So (has s o) → AmongOutputs ins s cs v x
      → AmongOutputs ins s cs (also v o) (first_found (older_at cs) x (first_for ins o cs))
  visit_output s o h f =
      first_visit (ranks_on older older_ranks (nth cs)) f o (λ k. waits_on ins o (nth cs k))
      (λ k l. same_test _ _
      (λ g. let w = waits_on→ ins o (nth cs k) g in join _ _ (→among ins (has s) (nth cs k) w.0 w.1 (ap (has s) w.2 ∙ h)) (eq-eqb _ _ w.2))
      (λ g.
      let b = both (waits_among ins (has s) (nth cs k)) _ g in
      let w = among→ ins (has s) (nth cs k) b.0 in
      →waits_on ins o (nth cs k) w.0 w.1 (eqb-true _ _ b.1)))
      (first_for ins o cs) (first_for_lem o)

  pub all_outputs : (s : ℕ) {x : Option ℕ} → AmongOutputs ins s cs (has s) x → x ≡ first_among ins (has s) cs
  unfolding first_among
  all_outputs s f = walk_least (λ k. waits_among ins (has s) (nth cs k)) _ cs (λ k l h. (among→ ins (has s) (nth cs k) h).2) f

-- every sender that is not taken was visited
pub all_inputs : {cs : List Cell} {qs : PairQueues} → LinedUp cs qs → (ins o left : ℕ) → o < most_ports → Except (senders qs o) ins left
    → {x : Option ℕ} → ForOutput (has ins) o cs (has left) x → x ≡ first_for (has ins) o cs
unfolding first_for
all_inputs {cs} q ins o left m e f = walk_least (λ k. waits_on (has ins) o (nth cs k)) _ cs (λ k l h. left-has q ins o left m e k l h) f

pub first_for_below : (ins : ℕ → Bool) (o : ℕ) (cs : List Cell) → Below (length cs) (first_for ins o cs)
first_for_below ins o cs = first_below (λ k. waits_on ins o (nth cs k)) (older_at cs) (length cs) (first_for ins o cs) (first_for_lem ins cs o)

-- The lowest readings ----------------------------------------------------------------------------

-- l are those of the outputs v that can be served with the lowest reading
pub record Lowering (r : List ℕ) (ins : ℕ → Bool) (cs : List Cell) (v : ℕ → Bool) (l : Tied) : Type 0 where
  pub lowest : LowestOf (λ o. is_servable ins o cs) (λ o. reading_for r (output_of o)) v (has l.ports.mask) l.reading
  pub some : (l.ports.mask ≡ 0) ⊎ ((o : ℕ) × So (has l.ports.mask o))

module _ {r : List ℕ} {ins : ℕ → Bool} {cs : List Cell} where
  pub lowering_none : {l : Tied} → l.ports.mask ≡ 0 → Lowering r ins cs nobody l
  lowering_none {l} e = record { lowest = rw (e, has-nobody) (lowest-nobody l.reading); some = inl e }

  module _ {v : ℕ → Bool} {l : Tied} (h : Lowering r ins cs v l) (o : ℕ) where
    -- output o is visited and cannot be served
    pub lowering_skip : No (is_servable ins o cs) → Lowering r ins cs (also v o) l
    lowering_skip n = record { lowest = lowest_skip h.lowest o n; some = h.some }

    -- it can
    pub lowering_visit : So (is_servable ins o cs) → (x : ℕ) → x ≡ reading_for r (output_of o) → Lowering r ins cs (also v o) (lowered l o x)
    unfolding lowered
    lowering_visit c x e = go (eqb l.ports.mask 0) (ltb x l.reading) (ltb l.reading x) refl refl refl
      where
        fresh : ((q : ℕ) → No (has l.ports.mask q)) ⊎ (x < l.reading)
            → Lowering r ins cs (also v o) (record { ports = set_of (with_port 0 o); reading = x })
        fresh less =
            let a = added {r = with_port 0 o} refl in
            record {
              lowest = rw (added_also a, has-nobody, e) (lowest-fresh h.lowest o c (rw e at less));
              some = inr (o, a.inside);
            }

        go : (a b d : Bool) → eqb l.ports.mask 0 ≡ a → ltb x l.reading ≡ b → ltb l.reading x ≡ d
            → Lowering r ins cs (also v o) (cond a (record { ports = set_of (with_port 0 o); reading = x })
            (cond b (record { ports = set_of (with_port 0 o); reading = x })
            (cond d l (record { ports = set_of (with_port l.ports.mask o); reading = l.reading }))))
        go true b d i j k = fresh (inl (λ q. ap (λ (m : ℕ). has m q) (eqb-true _ _ i) ∙ has-none q))
        go false true d i j k = fresh (inr (ltb-true _ _ j))
        go false false true i j k =
            let g = ⊎_elim (λ z. absurd (eqb-false _ _ i z)) (λ y. y) h.some in
            record { lowest = lowest-above h.lowest o c (omega (arith, e, ltb-true l.reading x k)) g.0 g.1; some = h.some }
        go false false false i j k =
            let a = added {r = with_port l.ports.mask o} refl in
            let tie : reading_for r (output_of o) ≡ l.reading = omega (arith, e, ltb-false x l.reading j, ltb-false l.reading x k) in
            record { lowest = rw (added_also a) (lowest_tie h.lowest o c tie); some = inr (o, a.inside) }

-- of the outputs that are not taken and can be served, those of the set s have the lowest reading
pub record Lows (r : List ℕ) (q : Taken) (cs : List Cell) (s : ℕ) : Type 0 where
  pub low : ℕ
  pub all : LowestOf (λ o. is_servable (has q.inputs.mask) o cs) (λ o. reading_for r (output_of o)) (λ o. not (has q.outputs.mask o)) (has s) low

-- every output that is wanted and not taken was visited
pub all_wanted : {r : List ℕ} {q : Taken} {cs : List Cell} {qs : PairQueues} {left : ℕ} {l : Tied} → LinedUp cs qs
    → Except (wanted qs) q.outputs.mask left → Lowering r (has q.inputs.mask) cs (has left) l → Lows r q cs l.ports.mask
all_wanted {r} {q} {cs} {qs} {left} {l} w e h = record {
  low = l.reading;
  all = record {
    inside = λ o x. let i = h.lowest.inside o x in (deny _ (except_out e o i.0), i.1, i.2);
    beyond = λ o n c. h.lowest.beyond o (there o n c) c;
    some = λ o n c. h.lowest.some o (there o n c) c;
  };
}
  where
    there : (o : ℕ) → So (not (has q.outputs.mask o)) → So (is_servable (has q.inputs.mask) o cs) → So (has left o)
    there o n c = e.each o ∙ join _ _ (wants w o (has q.inputs.mask) c) n

-- with the same reading the older cell stands before, with a lower one any cell
ahead : (r : List ℕ) (cell : ℕ → Cell) (k j : ℕ) → reading_for r (cell k).output ≡ reading_for r (cell j).output
    → Ahead (λ a b. older (cell a) (cell b)) k j → Ahead (λ a b. before r (cell a) (cell b)) k j
unfolding before
ahead r cell k j e (inl h) = inl (lower_equal _ _ _ e ∙ h)
ahead r cell k j e (inr h) = inr (lower_equal _ _ _ (sym e) ∙ h.0, h.1)

before-lower : (r : List ℕ) (c d : Cell) → reading_for r c.output < reading_for r d.output → So (before r c d)
unfolding before
before-lower r c d l = lower_below _ _ _ l

-- From round to round ----------------------------------------------------------------------------

-- the outputs of the set have one reading; every other that is not taken and can be served has a higher
pub record Kept (r : List ℕ) (q : Taken) (cs : List Cell) (s : ℕ) : Type 0 where
  pub alike : (o p : ℕ) → So (has s o) → So (has s p) → reading_for r (output_of o) ≡ reading_for r (output_of p)
  pub beyond : (o p : ℕ) → So (has s o) → No (has q.outputs.mask p) → So (is_servable (has q.inputs.mask) p cs) → No (has s p)
      → reading_for r (output_of o) < reading_for r (output_of p)

kept_none : (r : List ℕ) (q : Taken) (cs : List Cell) → Kept r q cs 0
kept_none r q cs = record { alike = λ o p x. absurd (refuted x (has-none o)); beyond = λ o p x. absurd (refuted x (has-none o)) }

pub kept_lows : {r : List ℕ} {q : Taken} {cs : List Cell} {s : ℕ} → Lows r q cs s → Kept r q cs s
kept_lows w = record {
  alike = λ o p x y. (w.all.inside o x).2 ∙ sym (w.all.inside p y).2;
  beyond = λ o p x n y m. omega (arith, (w.all.inside o x).2, w.all.beyond p (deny _ n) y m);
}

-- the taken ones go
pub kept_left : {r : List ℕ} {q : Taken} {cs : List Cell} {s left : ℕ} → Except s q.outputs.mask left → Kept r q cs s → Kept r q cs left
kept_left {r} {q} {cs} {s} {left} e h = record {
  alike = λ o p x y. h.alike o p (except_in e o x) (except_in e p y);
  beyond = λ o p x n y m. h.beyond o p (except_in e o x) n y (to_no (λ z. refuted (e.each p ∙ join _ _ z (deny _ n)) m));
}

-- a cell is taken: the readings stay, and what can be served gets less
module _ {us vs : List ℕ} {qs : PairQueues} {q next : Taken} {ns ms : List ℕ} {k : ℕ} (t : Takes us q ns k vs qs next ms)
    (l : k < length (cells_of us)) where
  cells : cells_of vs ≡ set (cells_of us) k (placed 2 (nth (cells_of us) k))
  cells = ap cells_of t.table ∙ cells_of-stored us k (placed 2 (nth (cells_of us) k))

  -- a cell that still waits is another one
  still : (j : ℕ) → So (is_waiting (nth (cells_of vs) j)) → nth (cells_of vs) j ≡ nth (cells_of us) j
  still j w = rw cells (placed_waits (cells_of us) k l j (rw cells at (waiting→ _ w)))

  still_servable : (o : ℕ) → So (is_servable (has next.inputs.mask) o (cells_of vs)) → So (is_servable (has q.inputs.mask) o (cells_of us))
  unfolding is_servable
  still_servable o h =
      let j = any→ (λ j. waits_on (has next.inputs.mask) o (nth (cells_of vs) j)) (length (cells_of vs)) h in
      let w = waits_on→ (has next.inputs.mask) o (nth (cells_of vs) j.0) j.2 in
      let e = still j.0 w.0 in
      →any (λ j. waits_on (has q.inputs.mask) o (nth (cells_of us) j)) (length (cells_of us)) j.0
      (omega (arith, j.1, ap length cells, length-set (cells_of us) k (placed 2 (nth (cells_of us) k))))
      (rw (← e) (→waits_on (has q.inputs.mask) o (nth (cells_of vs) j.0) w.0 (to_no (λ x. refuted (added_kept t.inputs _ x) w.1)) w.2))

  kept_take : {r : List ℕ} {s : ℕ} → Kept r q (cells_of us) s → Kept r next (cells_of vs) s
  kept_take {r} {s} h = record {
    alike = h.alike;
    beyond = λ o p x n y z. h.beyond o p x (to_no (λ v. refuted (added_kept t.outputs p v) n)) (still_servable p y) z;
  }

-- What the round finds ---------------------------------------------------------------------------

first-among : (ins : ℕ → Bool) (s : ℕ) (cs : List Cell) → Oldest cs (waits_among ins (has s)) (first_among ins (has s) cs)
unfolding first_among
first-among ins s cs = least_first (older_at cs) (ranks_on older older_ranks (nth cs)) (λ k. waits_among ins (has s) (nth cs k)) (length cs)

is_first : (r : List ℕ) (ins outs : ℕ → Bool) (cs : List Cell) (x : Option ℕ) → FirstCandidate r ins outs cs x → x ≡ first_candidate r ins outs cs
unfolding first_candidate
is_first r ins outs cs x h =
    first-least (before_at r cs) (ranks_on (before r) (before_ranks r) (nth cs)) (λ k. candidate ins outs (nth cs k)) (length cs) x h

-- the output of a candidate can be served
servable : (ins outs : ℕ → Bool) (cs : List Cell) (k : ℕ) → k < length cs → So (candidate ins outs (nth cs k)) → So (is_servable ins (nth cs k).output.0 cs)
unfolding is_servable
servable ins outs cs k l x =
    let v = candidate→ ins outs (nth cs k) x in
    let o : ℕ = (nth cs k).output.0 in
    →any (λ j. waits_on ins o (nth cs j)) (length cs) k l (→waits_on ins o (nth cs k) v.0 v.1 refl)

-- and one that can be served has a cell
served : (ins : ℕ → Bool) (cs : List Cell) (s o : ℕ) → So (has s o) → So (is_servable ins o cs)
    → (k : ℕ) × (k < length cs) × So (waits_among ins (has s) (nth cs k))
unfolding is_servable
served ins cs s o y x =
    let k = any→ (λ j. waits_on ins o (nth cs j)) (length cs) x in
    let v = waits_on→ ins o (nth cs k.0) k.2 in
    (k.0, k.1, →among ins (has s) (nth cs k.0) v.0 v.1 (ap (has s) v.2 ∙ y))

-- among outputs that are kept and not taken, the oldest cell is the first candidate
module _ {r : List ℕ} {q : Taken} {cs : List Cell} {s : ℕ} (h : Kept r q cs s) (n : (o : ℕ) → So (has s o) → No (has q.outputs.mask o)) where
  abbrev ins : ℕ → Bool
  ins = has q.inputs.mask

  abbrev outs : ℕ → Bool
  outs = has q.outputs.mask

  oldest : (k : ℕ) → Oldest cs (waits_among ins (has s)) (Some k) → FirstCandidate r ins outs cs (Some k)
  oldest k t =
      let a = among→ ins (has s) (nth cs k) t.1 in (
        t.0,
        →candidate ins outs (nth cs k) a.0 a.1 (n (nth cs k).output.0 a.2),
        λ j l x.
            let v = candidate→ ins outs (nth cs j) x in
            ⊎_elim
            (λ y. ahead r (nth cs) k j (h.alike _ _ a.2 y) (t.2 j l (→among ins (has s) (nth cs j) v.0 v.1 y)))
            (λ y. inl (before-lower r (nth cs k) (nth cs j) (h.beyond _ (nth cs j).output.0 a.2 v.2 (servable ins outs cs j l x) y)))
            (passes (has s (nth cs j).output.0)),
      )

  pub kept_first : (x : Option ℕ) → x ≡ first_among (has q.inputs.mask) (has s) cs → So (is_some x)
      → x ≡ first_candidate r (has q.inputs.mask) (has q.outputs.mask) cs
  kept_first (Some k) e y =
      is_first r ins outs cs (Some k) (oldest k (subst (λ (x : Option ℕ). Oldest cs (waits_among ins (has s)) x) (sym e) (first-among ins s cs)))
  kept_first None e y = absurd (false≢true y)

-- among the outputs with the lowest reading there is a cell where there is a candidate
pub lows_first : {r : List ℕ} {q : Taken} {cs : List Cell} {s : ℕ} → Lows r q cs s
    → first_among (has q.inputs.mask) (has s) cs ≡ first_candidate r (has q.inputs.mask) (has q.outputs.mask) cs
lows_first {r} {q} {cs} {s} w = is_first r ins outs cs _ (go (first_among ins (has s) cs) (first-among ins s cs))
  where
    ins : ℕ → Bool
    ins = has q.inputs.mask

    outs : ℕ → Bool
    outs = has q.outputs.mask

    go : (found : Option ℕ) → Oldest cs (waits_among ins (has s)) found → FirstCandidate r ins outs cs found
    go (Some k) t = oldest (kept_lows w) (λ o x. denied _ (w.all.inside o x).0) k t
    go None t = λ j l x.
        let v = candidate→ ins outs (nth cs j) x in
        let o = w.all.some (nth cs j).output.0 (deny _ v.2) (servable ins outs cs j l x) in
        let k = served ins cs s o.0 o.1 (w.all.inside o.0 o.1).1 in
        t k.0 k.1 k.2

-- Rounds of picking ------------------------------------------------------------------------------

-- after i rounds on the table ws: what was picked shows, the queues are the table's, and the outputs kept stay those with the lowest reading
pub record AfterRounds (n : ℕ) (r ws us : List ℕ) (qs : PairQueues) (q : Taken) (ns : List ℕ) (lows i : ℕ) : Type 0 where
  pub rounds : i ≤ n
  pub shows : Shows ws (picks r (cells_of ws) i) us q ns
  pub queues : Queues All (cells_of us) qs
  pub kept : Kept r q (cells_of us) lows

pub rounds_none : (n : ℕ) (r ws : List ℕ) (qs : PairQueues) (q : Taken) (ns : List ℕ) → Queues All (cells_of ws) qs → q.inputs.mask ≡ 0
    → q.outputs.mask ≡ 0 → length ns ≡ most_ports → AfterRounds n r ws ws qs q ns 0 0
rounds_none n r ws qs q ns h i o l =
    record { rounds = omega arith; shows = rw (over_zero _ _) (shows-none ws q ns i o l); queues = h; kept = kept_none r q (cells_of ws) }

module _ {n : ℕ} {r ws us : List ℕ} {qs : PairQueues} {q : Taken} {ns : List ℕ} {lows i : ℕ} (a : AfterRounds n r ws us qs q ns lows i) where
  -- all rounds, or a round that finds nothing
  pub rounds_all : i ≡ n → Picked n r ws us qs q ns
  rounds_all e = record { shows = rw (← picks_all r (cells_of ws) n, ← e) a.shows; queues = a.queues }

  module _ {found : Option ℕ} (e : found ≡ first_candidate r (has q.inputs.mask) (has q.outputs.mask) (cells_of us)) where
    pub rounds_stop : found ≡ None → Picked n r ws us qs q ns
    rounds_stop none =
        record { shows = rw (stops r (cells_of ws) i n a.rounds (sym (finds a.shows r) ∙ sym e ∙ none)) at a.shows; queues = a.queues }

    -- one that finds record k
    module _ {k : ℕ} (at : found ≡ Some k) (o : Orderly n ws) where
      opened : first_open r (cells_of ws) (picks r (cells_of ws) i) ≡ Some k
      opened = sym (finds a.shows r) ∙ sym e ∙ at

      inside : k < length (cells_of ws)
      inside = (open_found r (cells_of ws) (picks r (cells_of ws) i) k opened).0

      opens : So (is_open (cells_of ws) (picks r (cells_of ws) i) k)
      opens = (open_found r (cells_of ws) (picks r (cells_of ws) i) k opened).1

      waits : (nth (cells_of ws) k).place ≡ 1
      waits = open_waits (cells_of ws) (picks r (cells_of ws) i) k opens

      pub rounds_take : Takeable us qs k
      rounds_take =
          let s = cell_same a.shows k inside in
          record {
            inside = omega (arith, inside, length-cells_of ws, same-records us ws (shown_long a.shows));
            few = rw (same-records us ws (shown_long a.shows)) o.few;
            queues = a.queues;
            ports = record {
              input = omega (arith, s.input, o.small, o.inside.inputs k inside waits);
              output = omega (arith, s.output, o.small, o.inside.outputs k inside waits);
            };
          }

      pub rounds_more : {vs : List ℕ} {qs' : PairQueues} {next : Taken} {ms : List ℕ} {lows' : ℕ} → i < n → Kept r q (cells_of us) lows'
          → Takes us q ns k vs qs' next ms → AfterRounds n r ws vs qs' next ms lows' (i + 1)
      rounds_more l h t =
          record {
            rounds = omega arith;
            shows =
                rw (picks_more r (cells_of ws) i, opened)
                (shows-add a.shows k inside opens t (omega (arith, o.small, o.inside.outputs k inside waits)));
            queues = t.queues;
            kept = kept_take t (omega (arith, inside, length-shown a.shows)) h;
          }
