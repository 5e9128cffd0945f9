-- The queues are lined up record by record: what a waiting cell changes as it joins those below it, that a record that does not wait changes
-- nothing, and that the words of all records say of the table what queues say.
-- Assumes nothing.
use Prim.Native.Nat.{ℕ, zero, suc, ◌+◌, ◌<◌, ◌≤◌}
use Rattle.std.specs.Prelude.{◌≡◌, Bool, eqb, length, Option, Some, None}
use Rattle.std.proofs.Math.Path.{refl, sym, ap, ap₂}
use Rattle.std.proofs.Common.{◌∙◌, ⊎_elim, arith}
use Rattle.std.proofs.Math.Bool.{So}
use Rattle.std.proofs.lemmas.Bool.{false≢true}
use mathlib.Core.List.{List}
use Rattle.std.proofs.Math.Numerals.{add-one}
use borrow.Author.Tests.{eqb-true, eqb-false, ne_eqb}
use Rattle.std.specs.Int.Bits.{bit_and}
use Rattle.std.proofs.Math.ListN.{length-replicate}
use Rattle.std.proofs.lemmas.List.{get_or-replicate}
use Rattle.laws.specs.Bits.{and_none}
use Rattle.laws.specs.Tests.{No, passes, refuted, to_no, cond_true, cond_false}
use Rattle.laws.specs.Walk.{over, over_more}
use Rattle.laws.specs.Least.{least_zero, least_more, least_below, Below, below_wider, sooner, sooner_skip}
use Rattle.laws.specs.First.{first_found, first_found-sooner}
use Rattle.ports.specs.declared.PortSet.{PortSet}
use Rattle.ports.specs.Ports.{has, set_of}
use Rattle.ports.specs.PortLaws.{has-none}
use Rattle.rules.specs.declared.Cell.{Cell}
use Rattle.rules.specs.Cells.{most_ports, most_records, nth, is_waiting, records, cells_of}
use Rattle.ideal.specs.Cells.{waiting→}
use Rattle.words.specs.Words.{length-cells_of}
use Rattle.sift.specs.Stretch.{waiting_bit}
use Rattle.sift.specs.Walk.{Next, Last, to_next, to_last}
use Rattle.table.specs.Table.{older_at}
use Rattle.queues.specs.declared.PairQueues.{PairQueues}
use Rattle.queues.specs.Layout.{pairs, Long, pair, pair_of, same-pair}
use Rattle.queues.specs.Layout.{head_word, senders, wanted, no_queues, name_of, named, named_name, is_found}
use Rattle.queues.specs.Queues.{Ports, waits_for, waits→, →waits, head_below, Heads, All, But, Queues, waiting_at, class_of}
use Rattle.queues.specs.Queues.{linked, head_set, chained, old_head, new_head, compared, joined, lined_to, lined_up, Lineable, LinedTo, Joinable}
use Rattle.queues.specs.Chains.{no_chains, chains_skip, chains_same, chains_link, class_waiting, class_other, linked_long}
use Rattle.queues.specs.Heads.{head_below_lem, HeadSet, head_set_lem}

-- A record read ----------------------------------------------------------------------------------

module _ (cs : List Cell) (k : ℕ) where
  pub not-waiting : ((nth cs k).place ≡ 1 → ⊥) → No (is_waiting (nth cs k))
  unfolding is_waiting
  not-waiting h = ne_eqb _ _ h

  pub waiting_here : So (is_waiting (nth cs k)) → waiting_at cs k ≡ Some k
  unfolding waiting_at
  waiting_here h = cond_true (is_waiting (nth cs k)) (Some k) None h

  pub waiting_none : No (is_waiting (nth cs k)) → waiting_at cs k ≡ None
  unfolding waiting_at
  waiting_none h = cond_false (is_waiting (nth cs k)) (Some k) None h

-- One more record --------------------------------------------------------------------------------

module _ (cs : List Cell) (k : ℕ) (qs : PairQueues) where
  pub joined_skip : No (is_waiting (nth cs k)) → joined cs k qs ≡ qs
  unfolding joined
  joined_skip h = cond_false (is_waiting (nth cs k)) _ qs h

  joined_waits : So (is_waiting (nth cs k)) → joined cs k qs ≡ compared cs k (chained cs k qs)
  unfolding joined
  joined_waits h = cond_true (is_waiting (nth cs k)) _ qs h

module _ (cs : List Cell) where
  pub lined_zero : lined_to cs 0 ≡ no_queues
  unfolding lined_to over
  lined_zero = refl

  pub lined_more : (k : ℕ) → lined_to cs (k + 1) ≡ joined cs k (lined_to cs k)
  unfolding lined_to
  lined_more k = over_more (joined cs) no_queues k

module _ (cs : List Cell) (k i o : ℕ) where
  head_skip : No (waits_for i o (nth cs k)) → head_below cs (k + 1) i o ≡ head_below cs k i o
  unfolding head_below
  head_skip h = least_more _ _ k ∙ sooner_skip _ k _ _ h

  head_join : So (waits_for i o (nth cs k)) → head_below cs (k + 1) i o ≡ first_found (older_at cs) (head_below cs k i o) (waiting_at cs k)
  unfolding head_below waiting_at
  head_join h =
      least_more _ _ k ∙ ap (λ (b : Bool). sooner (older_at cs) (head_below cs k i o) b k) h
      ∙ sym (first_found-sooner (older_at cs) (head_below cs k i o) k (least_below _ _ k))
      ∙ sym (ap (first_found (older_at cs) (head_below cs k i o)) (cond_true (is_waiting (nth cs k)) (Some k) None (waits→ i o (nth cs k) h).0))

-- what does not wait changes nothing
lined_skip : {cs : List Cell} {k : ℕ} {qs : PairQueues} → No (is_waiting (nth cs k)) → LinedTo cs k qs → LinedTo cs (k + 1) qs
lined_skip {cs} {k} n y = record {
  long = y.long;
  chains = chains_skip y.chains (class_other _ _ n);
  heads = record {
    head = λ i o l m z. y.heads.head i o l m z ∙ sym (ap name_of (head_skip cs k i o (out i o)));
    sends = λ i o l m z. y.heads.sends i o l m z ∙ sym (ap is_found (head_skip cs k i o (out i o)));
    wants = λ i o l m z f. y.heads.wants i o l m z (sym (ap is_found (head_skip cs k i o (out i o))) ∙ f);
  };
}
  where
    out : (i o : ℕ) → No (waits_for i o (nth cs k))
    out i o = to_no (λ x. refuted (waits→ i o (nth cs k) x).0 n)

-- a waiting cell becomes its chain's top, and the head if it is the older
module _ {table : List ℕ} {k : ℕ} {qs : PairQueues} (j : Joinable table k qs) (w : So (is_waiting (nth (cells_of table) k))) where
  abbrev cs : List Cell
  cs = cells_of table

  abbrev i : ℕ
  i = (nth cs k).input.0

  abbrev o : ℕ
  o = (nth cs k).output.0

  abbrev ms : PairQueues
  ms = chained cs k qs

  pub names : k < most_records
  names = omega (arith, j.inside, j.lineable.few)

  pub joins_ports : Ports (nth (cells_of table) k).input (nth (cells_of table) k).output
  joins_ports = record {
    input = j.lineable.ports.inputs k (rw (length-cells_of table) j.inside) (waiting→ _ w);
    output = j.lineable.ports.outputs k (rw (length-cells_of table) j.inside) (waiting→ _ w);
  }

  pub joins_pair : pair_of (nth (cells_of table) k) < pairs
  joins_pair = omega (arith, joins_ports.input, joins_ports.output)

  joins_long : Long (chained (cells_of table) k qs)
  joins_long = linked_long qs j.below.long _ joins_pair k names

  -- what was the head, and what is it now
  was_head : old_head cs k ms ≡ head_below cs k i o
  unfolding linked
  was_head = ap named (j.below.heads.head i o joins_ports.input joins_ports.output tt) ∙ named_name (head_below cs k i o)

  is_head : new_head cs k ms ≡ head_below cs (k + 1) i o
  is_head = ap (λ (x : Option ℕ). first_found (older_at cs) x (waiting_at cs k)) was_head ∙ sym (head_join cs k i o (→waits i o (nth cs k) w refl refl))

  set_new : HeadSet ms i o (new_head cs k ms) (compared cs k ms)
  unfolding compared
  set_new = head_set_lem ms i o joins_long joins_ports.input joins_ports.output (new_head cs k ms)

  -- another pair keeps its head
  module _ (x y : ℕ) (l : x < most_ports) (m : y < most_ports) (n : But i o x y) where
    skip : head_below cs (k + 1) x y ≡ head_below cs k x y
    skip = head_skip cs k x y (to_no (λ v. let t = waits→ x y (nth cs k) v in n (omega (arith, t.1, t.2))))

    keeps_head : head_word (compared cs k ms) x y ≡ name_of (head_below cs (k + 1) x y)
    unfolding linked
    keeps_head = set_new.heads x y l m n ∙ j.below.heads.head x y l m tt ∙ sym (ap name_of skip)

    keeps_sends : has (senders (compared cs k ms) y) x ≡ is_found (head_below cs (k + 1) x y)
    unfolding linked
    keeps_sends = set_new.others x y l m n ∙ j.below.heads.sends x y l m tt ∙ sym (ap is_found skip)

    keeps_wants : So (is_found (head_below cs (k + 1) x y)) → So (has (wanted (compared cs k ms)) y)
    unfolding linked
    keeps_wants d = set_new.kept y (j.below.heads.wants x y l m tt (sym (ap is_found skip) ∙ d))

  own : (x y : ℕ) → y < most_ports → So (eqb (pair x y) (pair i o)) → (x ≡ i) × (y ≡ o)
  own x y m t = same-pair x y i o m joins_ports.output (eqb-true (pair x y) (pair i o) t)

  heads_new : Heads All cs (k + 1) (compared cs k ms)
  heads_new = record {
    head = λ x y l m z.
        ⊎_elim
        (λ t. let u = own x y m t in rw (u.0, u.1) (set_new.head ∙ ap name_of is_head))
        (λ t. keeps_head x y l m (eqb-false (pair x y) (pair i o) t))
        (passes (eqb (pair x y) (pair i o)));
    sends = λ x y l m z.
        ⊎_elim
        (λ t. let u = own x y m t in rw (u.0, u.1) (set_new.sends ∙ ap is_found is_head))
        (λ t. keeps_sends x y l m (eqb-false (pair x y) (pair i o) t))
        (passes (eqb (pair x y) (pair i o)));
    wants = λ x y l m z d.
        ⊎_elim
        (λ t. let u = own x y m t in rw u.1 (set_new.wants (ap is_found is_head ∙ (rw (u.0, u.1) at d))))
        (λ t. keeps_wants x y l m (eqb-false (pair x y) (pair i o) t) d)
        (passes (eqb (pair x y) (pair i o)));
  }

  lined_join : LinedTo cs (k + 1) (compared cs k ms)
  lined_join = record {
    long = set_new.long;
    chains =
        chains_same set_new.top set_new.next
        (chains_link qs j.below.long _ joins_pair k names j.below.chains (class_waiting cs k w));
    heads = heads_new;
  }

  -- the steps of the code: the record read as c, the words us once it is linked, the head x of its pair, the older y
  module _ {c : Cell} (read : c ≡ nth (cells_of table) k) {us : PairQueues} (link : us ≡ linked qs (pair_of c) k) where
    are_chained : us ≡ chained cs k qs
    are_chained = link ∙ ap (λ (d : Cell). linked qs (pair_of d) k) read

    module _ {x : Option ℕ} (head : x ≡ named (head_word us c.input.0 c.output.0)) where
      is_old : x ≡ old_head cs k ms
      is_old = head ∙ ap (λ (d : Cell). named (head_word us d.input.0 d.output.0)) read ∙ ap (old_head cs k) are_chained

      pub old_below : Below (records table) x
      old_below = rw (is_old, was_head) (below_wider k (records table) (head_below cs k i o) (omega (arith, j.inside)) (head_below_lem cs k i o))

      module _ {y : Option ℕ} (older : y ≡ first_found (older_at (cells_of table)) x (Some k)) where
        is_new : y ≡ new_head cs k ms
        is_new = older ∙ ap₂ (first_found (older_at cs)) is_old (sym (waiting_here cs k w))

        pub new_below : Below most_records y
        new_below = rw (is_new, is_head) (below_wider (k + 1) most_records (head_below cs (k + 1) i o) (omega (arith, names)) (head_below_lem cs (k + 1) i o))

        pub joined_by : {ns : PairQueues} → ns ≡ head_set us c.input.0 c.output.0 y → ns ≡ joined (cells_of table) k qs
        unfolding compared
        joined_by e =
            e ∙ ap (λ (d : Cell). head_set us d.input.0 d.output.0 y) read ∙ ap₂ (λ (v : PairQueues) (h : Option ℕ). head_set v i o h) are_chained is_new
            ∙ sym (joined_waits cs k qs w)

-- what a record joins by
pub ruleset joining = (joined_skip, joins_ports, joins_pair, old_below, new_below)

-- All records ------------------------------------------------------------------------------------

module _ {table : List ℕ} (f : Lineable table) where
  step : {k : ℕ} {qs : PairQueues} → k < records table → LinedTo (cells_of table) k qs → LinedTo (cells_of table) (k + 1) (joined (cells_of table) k qs)
  step {k} {qs} l y =
      ⊎_elim
      (λ w. rw (joined_waits (cells_of table) k qs w) (lined_join (record { inside = l; lineable = f; below = y }) w))
      (λ n. rw (joined_skip (cells_of table) k qs n) (lined_skip n y))
      (passes (is_waiting (nth (cells_of table) k)))

  pub lined_to_lem : (n : ℕ) → n ≤ records table → LinedTo (cells_of table) n (lined_to (cells_of table) n)
  unfolding head_below
  lined_to_lem zero l = rw (lined_zero (cells_of table)) (record {
    long = record {
      heads = length-replicate {A = ℕ} pairs 0;
      tops = length-replicate {A = ℕ} pairs 0;
      links = length-replicate {A = ℕ} most_records 0;
      senders = length-replicate {A = PortSet} most_ports (set_of 0);
    };
    chains = no_chains _;
    heads = record {
      head = λ i o l k z. get_or-replicate pairs (pair i o) 0 0 (omega arith) ∙ sym (ap name_of (least_zero _ _));
      sends = λ i o l k z.
          ap (λ (s : PortSet). has s.mask i) (get_or-replicate most_ports o (set_of 0) (set_of 0) k) ∙ has-none i
          ∙ sym (ap is_found (least_zero _ _));
      wants = λ i o l k z h. absurd (false≢true (sym (ap is_found (least_zero _ _)) ∙ h));
    };
  })
  lined_to_lem (suc n) l = rw (← add-one n, lined_more (cells_of table) n) (step (omega arith) (lined_to_lem n (omega arith)))

  pub lined_up_lem : Queues All (cells_of table) (lined_up (cells_of table))
  lined_up_lem =
      let y = lined_to_lem (length (cells_of table)) (omega (arith, length-cells_of table)) in
      record {
        cl = class_of (cells_of table);
        long = y.long;
        ports = f.ports;
        chains = y.chains;
        covers = λ k i w. class_waiting (cells_of table) k w;
        heads = y.heads;
      }

-- From one waiting cell to the next --------------------------------------------------------------

-- a record that lacks the bit of waiting cells changes nothing
pub lined_keeps : (table : List ℕ) {qs : PairQueues} (x : ℕ) → x < records table → bit_and (nth (cells_of table) x).place waiting_bit ≡ 0
    → qs ≡ lined_to (cells_of table) x → qs ≡ lined_to (cells_of table) (x + 1)
lined_keeps table x l h y =
    let cs = cells_of table in
    y ∙ sym (lined_more cs x ∙ joined_skip cs x _ (not-waiting cs x (and_none _ waiting_bit (omega arith) h)))

-- so the queues of the records that a walk over the waiting cells has passed are those below the one that it gives next, which can join them,
-- and at its end those of all
module _ {table ws : List ℕ} {bits at : ℕ} {qs : PairQueues} (words : ws ≡ table) (bits_are : bits ≡ waiting_bit)
    (y : qs ≡ lined_to (cells_of table) at) where
  pub lined_next : {k : ℕ} → Next ws bits at k → qs ≡ lined_to (cells_of table) k
  lined_next n = to_next (λ (x : ℕ). qs ≡ lined_to (cells_of table) x) (lined_keeps table) (rw (words, bits_are) at n) y

  pub next_joins : {k : ℕ} → Lineable table → Next ws bits at k → Joinable table k qs
  next_joins {k} f n =
      let l : k < records table = rw words at n.inside in
      record { inside = l; lineable = f; below = rw (lined_next n) (lined_to_lem f k (omega (arith, l))) }

  pub lined_last : Last ws bits at → qs ≡ lined_up (cells_of table)
  lined_last n =
      to_last (λ (x : ℕ). qs ≡ lined_to (cells_of table) x) (lined_keeps table) (rw (words, bits_are) at n) y
      ∙ ap (lined_to (cells_of table)) (sym (length-cells_of table))

-- what a table is lined up by
pub ruleset lining = (lined_zero, lined_more, lined_next, lined_last)
