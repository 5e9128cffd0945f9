-- The chains: a record joins the top of its pair's, and from the top down each record of the pair is met.
-- Assumes nothing.
use Rattle.std.specs.Prelude.{ℕ, suc, ◌+◌, ◌<◌, ◌≤◌, ◌≡◌, ◌⊎◌, Bool, not, cond, ◌&&◌, List, ltb, length, get_or, Option, Some, None}
use Rattle.std.proofs.Math.Path.{refl}
use Rattle.std.proofs.Common.{sym, ap, ◌∙◌, subst, inl, inr, ⊎_elim, arith, add-one}
use Rattle.std.proofs.Math.Bool.{So, true, false}
use borrow.Author.Tests.{eqb-true, eqb-false, ltb-true, ltb-false, le-ltb}
use Rattle.std.proofs.Math.Dec.{eqb}
use Rattle.std.proofs.Math.ListN.{length-set}
use Rattle.std.proofs.Math.Seq.{get_or-set_same, get_or-set_other}
use Rattle.std.proofs.lemmas.List.{get_or-replicate}
use Rattle.laws.specs.Tests.{No, passes, refuted, both, join, deny, denied, cond_true, cond_false, eqb_self}
use Rattle.laws.specs.Walk.{below_suc}
use Rattle.laws.specs.Order.{ranks_on}
use Rattle.laws.specs.Least.{Below}
use Rattle.laws.specs.First.{First, first_found, first_alike, first_below}
use Rattle.laws.proofs.First.{first_join, first-least}
use Rattle.rules.specs.declared.Input.{Input}
use Rattle.rules.specs.declared.Output.{Output}
use Rattle.rules.specs.declared.Cell.{Cell}
use Rattle.rules.specs.Cells.{most_ports, most_records, nth, is_waiting, older, records, cells_of}
use Rattle.ideal.specs.Cells.{waiting→, older_ranks}
use Rattle.words.specs.Words.{length-cells_of}
use Rattle.table.specs.Table.{older_at}
use Rattle.queues.specs.declared.PairQueues.{PairQueues}
use Rattle.queues.specs.Layout.{pairs, Long, pair, pair_of, top_word, next_word, no_queues, named, word_some, word_none}
use Rattle.queues.specs.Queues.{waits_for, waits→, →waits, head_below, head_of, Link, Chains, But, Queues, waiting_at, class_of, linked, Stale}

-- a record of another pair is no member
link_on : {cl : ℕ → ℕ} {p k v : ℕ} → Link cl p k v → (cl k ≡ p → ⊥) → Link cl p (k + 1) v
link_on {cl} {p} {k} {v} l ne = record {
  within = omega (arith, l.within);
  member = l.member;
  highest = λ j a b e.
      ⊎_elim
      (λ (x : So (eqb j k)). ne (ap cl (sym (eqb-true j k x)) ∙ e))
      (λ x. l.highest j a (let n = eqb-false j k x in omega arith) e)
      (passes (eqb j k));
}

link_here : {cl : ℕ → ℕ} {p k : ℕ} → cl k ≡ p → Link cl p (k + 1) (suc k)
link_here {cl} {p} {k} e = record {
  within = omega arith;
  member = λ j q. let h : j ≡ k = omega arith in ap cl h ∙ e;
  highest = λ j a b. absurd (omega arith);
}

pub no_chains : (cl : ℕ → ℕ) → Chains cl 0 no_queues
no_chains cl = record {
  tops = λ p l.
      let z : top_word no_queues p ≡ 0 = get_or-replicate pairs p 0 0 l in
      record { within = rw z (omega arith); member = λ k e. absurd (omega (arith, z)); highest = λ j a b. absurd (omega arith) };
  nexts = λ k l. absurd (omega arith);
}

-- record k is of no pair
pub chains_skip : {cl : ℕ → ℕ} {k : ℕ} {qs : PairQueues} → Chains cl k qs → cl k ≡ pairs → Chains cl (k + 1) qs
chains_skip {cl} {k} {qs} h e = record {
  tops = λ p l. link_on (h.tops p l) (λ q. omega (arith, q, e));
  nexts =
      rw (add-one k)
      (below_suc (λ (j : ℕ). cl j < pairs → Link cl (cl j) j (next_word qs j)) k h.nexts (λ l. absurd (omega (arith, e))));
}

-- record k is of pair p
module _ (qs : PairQueues) (long : Long qs) (p : ℕ) (small : p < pairs) (k : ℕ) (fits : k < most_records) where
  pub linked_long : Long (linked qs p k)
  unfolding linked
  linked_long = record {
    heads = long.heads;
    tops = length-set qs.tops p (suc k) ∙ long.tops;
    links = length-set qs.links k (top_word qs p) ∙ long.links;
    senders = long.senders;
  }

  top_new : top_word (linked qs p k) p ≡ suc k
  unfolding linked
  top_new = get_or-set_same qs.tops p (suc k) 0 (omega (arith, long.tops))

  top_other : (q : ℕ) → (q ≡ p → ⊥) → top_word (linked qs p k) q ≡ top_word qs q
  unfolding linked
  top_other q n = get_or-set_other qs.tops p q (suc k) 0 n

  next_new : next_word (linked qs p k) k ≡ top_word qs p
  unfolding linked
  next_new = get_or-set_same qs.links k (top_word qs p) 0 (omega (arith, long.links))

  next_other : (j : ℕ) → (j ≡ k → ⊥) → next_word (linked qs p k) j ≡ next_word qs j
  unfolding linked
  next_other j n = get_or-set_other qs.links k j (top_word qs p) 0 n

  pub chains_link : {cl : ℕ → ℕ} → Chains cl k qs → cl k ≡ p → Chains cl (k + 1) (linked qs p k)
  chains_link {cl} h e = record {
    tops = λ q l. ⊎_elim (λ x. here q (eqb-true q p x)) (λ x. there q l (eqb-false q p x)) (passes (eqb q p));
    nexts =
        rw (add-one k)
        (below_suc (λ (j : ℕ). cl j < pairs → Link cl (cl j) j (next_word (linked qs p k) j)) k
        (λ j l m. subst (Link cl (cl j) j) (sym (next_other j (omega arith))) (h.nexts j l m))
        (λ m. subst (Link cl (cl k) k) (sym next_new) (rw e (h.tops p small))));
  }
    where
      here : (q : ℕ) → q ≡ p → Link cl q (k + 1) (top_word (linked qs p k) q)
      here q b = rw b (subst (Link cl p (k + 1)) (sym top_new) (link_here e))

      there : (q : ℕ) → q < pairs → (q ≡ p → ⊥) → Link cl q (k + 1) (top_word (linked qs p k) q)
      there q l n = subst (Link cl q (k + 1)) (sym (top_other q n)) (link_on (h.tops q l) (λ y. n (sym y ∙ e)))

-- the heads, the sets of senders and the wanted outputs do not matter
pub chains_kept : {cl : ℕ → ℕ} {n : ℕ} {qs ns : PairQueues} → ((p : ℕ) → p < pairs → top_word ns p ≡ top_word qs p)
    → ((k : ℕ) → k < n → next_word ns k ≡ next_word qs k) → Chains cl n qs → Chains cl n ns
chains_kept {cl} {n} top next h = record {
  tops = λ p l. subst (Link cl p n) (sym (top p l)) (h.tops p l);
  nexts = λ k l m. subst (Link cl (cl k) k) (sym (next k l)) (h.nexts k l m);
}

pub chains_same : {cl : ℕ → ℕ} {n : ℕ} {qs ns : PairQueues} → ns.tops ≡ qs.tops → ns.links ≡ qs.links → Chains cl n qs → Chains cl n ns
chains_same top next =
    chains_kept (λ p l. ap (λ (ws : List ℕ). get_or ws p 0) top) (λ k l. ap (λ (ws : List ℕ). get_or ws k 0) next)

-- Classes ----------------------------------------------------------------------------------------

pub class_waiting : (cs : List Cell) (k : ℕ) → So (is_waiting (nth cs k)) → class_of cs k ≡ pair_of (nth cs k)
unfolding class_of
class_waiting cs k h = cond_true (is_waiting (nth cs k)) (pair_of (nth cs k)) pairs h

pub class_other : (cs : List Cell) (k : ℕ) → No (is_waiting (nth cs k)) → class_of cs k ≡ pairs
unfolding class_of
class_other cs k h = cond_false (is_waiting (nth cs k)) (pair_of (nth cs k)) pairs h

-- Down a chain -----------------------------------------------------------------------------------

-- found is the oldest waiting cell of the pair from the record that v names up; v names one of the pair, or none
pub record Looked (cl : ℕ → ℕ) (table : List ℕ) (i o v : ℕ) (found : Option ℕ) : Type 0 where
  pub within : v ≤ records table
  pub member : (k : ℕ) → v ≡ suc k → cl k ≡ pair i o
  pub first : First (λ j. not (ltb j v) && waits_for i o (nth (cells_of table) j)) (older_at (cells_of table)) (length (cells_of table)) found

pub looked_below : {cl : ℕ → ℕ} {table : List ℕ} {i o v : ℕ} {found : Option ℕ} → Looked cl table i o v found → Below (records table) found
looked_below {cl} {table} {i} {o} {v} {found} s =
    rw (length-cells_of table) at (first_below (λ j. not (ltb j v) && waits_for i o (nth (cells_of table) j)) (older_at (cells_of table)) _ found s.first)

module _ {table : List ℕ} {qs : PairQueues} {input : Input} {output : Output} (stale : Stale table qs input output) where
  abbrev cs : List Cell
  cs = cells_of table

  abbrev i : ℕ
  i = input.0

  abbrev o : ℕ
  o = output.0

  abbrev q : Queues (But i o) cs qs
  q = stale.queues

  small : i < most_ports
  small = stale.ports.input

  less : o < most_ports
  less = stale.ports.output

  -- a waiting cell of the pair is of its class, and the other way round
  of_class : (j : ℕ) → j < length cs → So (waits_for i o (nth cs j)) → q.cl j ≡ pair i o
  of_class j l h = let w = waits→ i o (nth cs j) h in q.covers j l w.0 ∙ omega (arith, w.1, w.2)

  in_class : (j : ℕ) → j < length cs → q.cl j ≡ pair i o → So (is_waiting (nth cs j)) → So (waits_for i o (nth cs j))
  in_class j l e h =
      let x = q.ports.outputs j l (waiting→ _ h) in
      let y = q.covers j l h in
      →waits i o (nth cs j) h (omega (arith, x, y, e, less)) (omega (arith, x, y, e, less))

  pub looked_top : {v : ℕ} → v ≡ top_word qs (pair input.0 output.0) → Looked stale.queues.cl table input.0 output.0 v None
  looked_top e =
      let t = q.chains.tops (pair i o) (omega (arith, small, less)) in
      rw e (record {
        within = rw (← length-cells_of table) t.within;
        member = t.member;
        first = λ j l h.
            let b = both (not (ltb j (top_word qs (pair i o)))) _ h in
            t.highest j (ltb-false j _ (denied _ b.0)) l (of_class j l b.1);
      })

  module _ (k : ℕ) (found : Option ℕ) (s : Looked stale.queues.cl table input.0 output.0 (suc k) found) where
    here : k < length cs
    here = rw (length-cells_of table) s.within

    next : Link q.cl (q.cl k) k (next_word qs k)
    next = q.chains.nexts k here (rw (s.member k refl) (omega (arith, small, less)))

    -- record k by itself
    alone : First (λ j. eqb j k && waits_for i o (nth cs j)) (older_at cs) (length cs) (waiting_at cs k)
    unfolding waiting_at
    alone = go (is_waiting (nth cs k)) refl
      where
        go : (b : Bool) → is_waiting (nth cs k) ≡ b → First (λ j. eqb j k && waits_for i o (nth cs j)) (older_at cs) (length cs) (cond b (Some k) None)
        go true e = (
          here,
          join _ _ (eqb_self k) (in_class k here (s.member k refl) e),
          λ j l h. let x : j ≡ k = eqb-true j k (both (eqb j k) _ h).0 in rw x (inr (older_ranks.strict.irreflexive (nth cs k), omega arith)),
        )
        go false e = λ j l h.
            let x = both (eqb j k) _ h in
            let y : j ≡ k = eqb-true j k x.0 in
            refuted (waits→ i o (nth cs j) x.1).0 (ap (λ (z : ℕ). is_waiting (nth cs z)) y ∙ e)

    looked_next : Looked q.cl table i o (next_word qs k) (first_found (older_at cs) found (waiting_at cs k))
    looked_next =
        let m = next in
        record {
          within = omega (arith, m.within, s.within);
          member = λ j e. m.member j e ∙ s.member k refl;
          first =
              first_join (older_at cs) (ranks_on older older_ranks (nth cs)) _ _ _ (length cs)
              (λ j l h.
              let x = both (not (ltb j (suc k))) _ h in
              join _ _ (from_next j (omega (arith, m.within, ltb-false j (suc k) (denied _ x.0)))) x.1)
              (λ j l h. let x = both (eqb j k) _ h in join _ _ (from_next j (omega (arith, m.within, eqb-true j k x.0))) x.1)
              (λ j l h. let x = both (not (ltb j (next_word qs k))) _ h in split j l (ltb-false j _ (denied _ x.0)) x.1)
              found (waiting_at cs k) s.first alone;
        }
      where
        from_next : (j : ℕ) → next_word qs k ≤ j → So (not (ltb j (next_word qs k)))
        from_next j l = deny _ (le-ltb j (next_word qs k) l)

        split : (j : ℕ) → j < length cs → next_word qs k ≤ j → So (waits_for i o (nth cs j))
            → So (not (ltb j (suc k)) && waits_for i o (nth cs j)) ⊎ So (eqb j k && waits_for i o (nth cs j))
        split j l a h =
            ⊎_elim
            (λ x. inr (join _ _ x h))
            (λ x.
            ⊎_elim
            (λ y. absurd (next.highest j a (ltb-true j k y) (of_class j l h ∙ sym (s.member k refl))))
            (λ y. inl (join _ _ (deny _ (le-ltb j (suc k) (let n = eqb-false j k x in omega (arith, ltb-false j k y)))) h))
            (passes (ltb j k)))
            (passes (eqb j k))

  -- the same, in the words of the code
  pub looked_on : (v k : ℕ) (found : Option ℕ) → v ≡ suc k → Looked stale.queues.cl table input.0 output.0 v found
      → let next : Option ℕ = first_found (older_at (cells_of table)) found (waiting_at (cells_of table) k) in
      (next_word qs k < v) × Looked stale.queues.cl table input.0 output.0 (next_word qs k) next
  looked_on v k found e s = let u = rw e at s in (omega (arith, (next k found u).within, e), looked_next k found u)

  pub looked_all : (v : ℕ) (found : Option ℕ) → v ≡ 0 → Looked stale.queues.cl table input.0 output.0 v found
      → found ≡ head_of (cells_of table) input.0 output.0
  unfolding head_below
  looked_all v found z s =
      first-least (older_at cs) (ranks_on older older_ranks (nth cs)) (λ j. waits_for i o (nth cs j)) (length cs) found
      (first_alike _ _ _ _ (length cs) (λ j l. rw (le-ltb j v (omega arith))) (λ j k a b x y. refl) found s.first)

-- The same of a chain whose pair's head is not known, in the words of the code: `word` names the record that comes next.
pub record Down (table : List ℕ) (qs : PairQueues) (i : Input) (o : Output) (word : ℕ) (found : Option ℕ) : Type 0 where
  pub stale : Stale table qs i o
  pub looked : Looked stale.queues.cl table i.0 o.0 word found

module _ {table : List ℕ} {qs : PairQueues} {i : Input} {o : Output} where
  pub down_top : {v : ℕ} → Stale table qs i o → v ≡ top_word qs (pair i.0 o.0) → Down table qs i o v None
  down_top s e = record { stale = s; looked = looked_top s e }

  module _ {v : ℕ} {found : Option ℕ} (d : Down table qs i o v found) where
    pub down_below : Below (records table) found
    down_below = looked_below d.looked

    pub down_inside : {k : ℕ} → named v ≡ Some k → (k < records table) × (k < most_records)
    down_inside {k} e = let w = word_some v k e in (omega (arith, d.looked.within, w), omega (arith, d.looked.within, d.stale.few, w))

    pub down_less : {k : ℕ} → named v ≡ Some k → next_word qs k < v
    down_less {k} e = (looked_on d.stale v k found (word_some v k e) d.looked).0

    pub down_on : {k : ℕ} → named v ≡ Some k
        → Down table qs i o (next_word qs k) (first_found (older_at (cells_of table)) found (waiting_at (cells_of table) k))
    down_on {k} e = record { stale = d.stale; looked = (looked_on d.stale v k found (word_some v k e) d.looked).1 }

    pub down_all : named v ≡ None → found ≡ head_of (cells_of table) i.0 o.0
    down_all e = looked_all d.stale v found (word_none v e) d.looked
