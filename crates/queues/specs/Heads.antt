-- The heads: what a new one leaves of the others, and how they change where a cell is picked and its pair's head is found anew.
-- Assumes nothing.
use Prim.Native.Nat.{ℕ, ◌<◌, ◌≤◌}
use Rattle.std.specs.Prelude.{◌≡◌, Bool, not, ◌&&◌, eqb, length, Option, Some, None}
use Rattle.std.proofs.Math.Path.{refl, sym, ap}
use Rattle.std.proofs.Common.{◌∙◌, subst, arith, eqb-true}
use Rattle.std.proofs.Math.Logic.{⊎_elim}
use Rattle.std.proofs.Math.Bool.{So, and-true}
use Rattle.std.proofs.lemmas.Bool.{false≢true, eqb-false}
use mathlib.Core.List.{List}
use Rattle.std.proofs.Math.ListN.{set, length-set}
use Rattle.std.proofs.Math.Seq.{get_or-set_same, get_or-set_other}
use Rattle.laws.specs.Tests.{No, passes, fails_right, same_test}
use Rattle.laws.specs.Least.{least_below, Below, below_wider}
use Rattle.laws.proofs.Least.{least-same}
use Rattle.ports.specs.declared.PortSet.{PortSet}
use Rattle.ports.specs.Ports.{has, with_port, except_ports, set_of}
use Rattle.ports.specs.PortLaws.{has-none, added, added_kept, excepted}
use Rattle.rules.specs.declared.Input.{Input}
use Rattle.rules.specs.declared.Output.{Output}
use Rattle.rules.specs.declared.Cell.{Cell}
use Rattle.rules.specs.Cells.{most_ports, most_records, free, nth, placed, cells_of}
use Rattle.ideal.specs.Cells.{waiting→, Same, older-same}
use Rattle.ideal.specs.Phases.{placed_waits, placed-cell}
use Rattle.ideal.specs.InPorts.{in_ports_still}
use Rattle.words.specs.Words.{length-cells_of}
use Rattle.queues.specs.declared.PairQueues.{PairQueues}
use Rattle.queues.specs.Layout.{Long, pair, same-pair}
use Rattle.queues.specs.Layout.{head_word, senders, wanted, name_of, is_found}
use Rattle.queues.specs.Queues.{waits_for, waits→, head_below, head_of, All, But, Queues, head_set, Stale}
use Rattle.queues.specs.Chains.{chains_same}

-- the head of a pair is one of the records that it was looked for among
pub head_below_lem : (cs : List Cell) (k i o : ℕ) → Below k (head_below cs k i o)
unfolding head_below
head_below_lem cs k i o = least_below _ _ k

-- A new head ----------------------------------------------------------------------------------

-- qs become ns by a head of a pair, x
pub record HeadSet (qs : PairQueues) (i o : ℕ) (x : Option ℕ) (ns : PairQueues) : Type 0 where
  pub long : Long ns
  pub head : head_word ns i o ≡ name_of x
  pub sends : has (senders ns o) i ≡ is_found x
  pub heads : (a b : ℕ) → a < most_ports → b < most_ports → But i o a b → head_word ns a b ≡ head_word qs a b
  pub others : (a b : ℕ) → a < most_ports → b < most_ports → But i o a b → has (senders ns b) a ≡ has (senders qs b) a
  pub wants : So (is_found x) → So (has (wanted ns) o)
  pub kept : (b : ℕ) → So (has (wanted qs) b) → So (has (wanted ns) b)
  pub top : ns.tops ≡ qs.tops
  pub next : ns.links ≡ qs.links

module _ (qs : PairQueues) (i o : ℕ) (long : Long qs) (small : i < most_ports) (less : o < most_ports) where
  -- with m for the output's senders and w for the wanted outputs
  module _ (x : Option ℕ) (m w : ℕ) (here : has m i ≡ is_found x) (there : (a : ℕ) → (a ≡ i → ⊥) → has m a ≡ has (senders qs o) a)
      (want : So (is_found x) → So (has w o)) (keep : (b : ℕ) → So (has (wanted qs) b) → So (has w b)) where
    abbrev all : PairQueues
    all = record {
      heads = set qs.heads (pair i o) (name_of x);
      tops = qs.tops;
      links = qs.links;
      senders = set qs.senders o (set_of m);
      wanted = set_of w;
    }

    at_set : senders all o ≡ m
    at_set = ap (λ (s : PortSet). s.mask) (get_or-set_same qs.senders o (set_of m) (set_of 0) (omega (arith, long.senders)))

    at_another : (b : ℕ) → (b ≡ o → ⊥) → senders all b ≡ senders qs b
    at_another b n = ap (λ (s : PortSet). s.mask) (get_or-set_other qs.senders o b (set_of m) (set_of 0) n)

    set_by : HeadSet qs i o x all
    set_by = record {
      long = record {
        heads = length-set qs.heads (pair i o) (name_of x) ∙ long.heads;
        tops = long.tops;
        links = long.links;
        senders = length-set qs.senders o (set_of m) ∙ long.senders;
      };
      head = get_or-set_same qs.heads (pair i o) (name_of x) 0 (omega (arith, long.heads));
      sends = ap (λ (v : ℕ). has v i) at_set ∙ here;
      heads = λ a b l k ne. get_or-set_other qs.heads (pair i o) (pair a b) (name_of x) 0 ne;
      others = λ a b l k ne. ⊎_elim (λ e. same a b ne (eqb-true b o e)) (λ e. ap (λ (v : ℕ). has v a) (at_another b (eqb-false b o e))) (passes (eqb b o));
      wants = want;
      kept = keep;
      top = refl;
      next = refl;
    }
      where
        same : (a b : ℕ) → But i o a b → b ≡ o → has (senders all b) a ≡ has (senders qs b) a
        same a b ne e = rw e (ap (λ (v : ℕ). has v a) at_set ∙ there a (λ v. ne (omega (arith, v, e))))

  -- one input taken out of a set
  taken_out : No (has (except_ports (senders qs o) (with_port 0 i)) i)
      × ((a : ℕ) → (a ≡ i → ⊥) → has (except_ports (senders qs o) (with_port 0 i)) a ≡ has (senders qs o) a)
  taken_out =
      let d = added {r = with_port 0 i} refl in
      let e = excepted {r = except_ports (senders qs o) (with_port 0 i)} refl in (
        e.each i ∙ fails_right (has (senders qs o) i) (not (has (with_port 0 i) i)) (ap not d.inside),
        λ a n. e.each a ∙ ap (λ (b : Bool). has (senders qs o) a && not b) (d.others a n ∙ has-none a) ∙ and-true (has (senders qs o) a),
      )

  pub head_set_lem : (x : Option ℕ) → HeadSet qs i o x (head_set qs i o x)
  unfolding head_set
  head_set_lem (Some k) =
      let s = added {r = with_port (senders qs o) i} refl in
      let w = added {r = with_port (wanted qs) o} refl in
      set_by (Some k) (with_port (senders qs o) i) (with_port (wanted qs) o) s.inside s.others (λ f. w.inside) (added_kept w)
  head_set_lem None =
      set_by None (except_ports (senders qs o) (with_port 0 i)) (wanted qs) taken_out.0 taken_out.1 (λ f. absurd (false≢true f)) (λ b d. d)

-- The head of one pair is found anew -------------------------------------------------------------

module _ {table : List ℕ} {qs : PairQueues} {i : Input} {o : Output} (s : Stale table qs i o) where
  few : length (cells_of table) ≤ most_records
  few = rw (length-cells_of table) s.few

  pub head_fits : Below most_records (head_of (cells_of table) i.0 o.0)
  head_fits = below_wider (length (cells_of table)) most_records (head_of (cells_of table) i.0 o.0) few (head_below_lem _ _ i.0 o.0)

  pub renewed : Queues All (cells_of table) (head_set qs i.0 o.0 (head_of (cells_of table) i.0 o.0))
  renewed =
      let q = s.queues in
      let h = head_set_lem qs i.0 o.0 q.long s.ports.input s.ports.output (head_of (cells_of table) i.0 o.0) in
      let pick : (x y : ℕ) → So (eqb (pair x y) (pair i.0 o.0)) → y < most_ports → (x ≡ i.0) × (y ≡ o.0) =
      λ x y t m. same-pair x y i.0 o.0 m s.ports.output (eqb-true (pair x y) (pair i.0 o.0) t) in
      let other : (x y : ℕ) → No (eqb (pair x y) (pair i.0 o.0)) → But i.0 o.0 x y = λ x y t. eqb-false (pair x y) (pair i.0 o.0) t in
      record {
        cl = q.cl;
        long = h.long;
        ports = q.ports;
        chains = chains_same h.top h.next q.chains;
        covers = q.covers;
        heads = record {
          head = λ x y l m z.
              ⊎_elim
              (λ t. let u = pick x y t m in rw (u.0, u.1) h.head)
              (λ t. h.heads x y l m (other x y t) ∙ q.heads.head x y l m (other x y t))
              (passes (eqb (pair x y) (pair i.0 o.0)));
          sends = λ x y l m z.
              ⊎_elim
              (λ t. let u = pick x y t m in rw (u.0, u.1) h.sends)
              (λ t. h.others x y l m (other x y t) ∙ q.heads.sends x y l m (other x y t))
              (passes (eqb (pair x y) (pair i.0 o.0)));
          wants = λ x y l m z d.
              ⊎_elim
              (λ t. let u = pick x y t m in rw u.1 (h.wants (rw (u.0, u.1) at d)))
              (λ t. h.kept y (q.heads.wants x y l m (other x y t) d))
              (passes (eqb (pair x y) (pair i.0 o.0)));
        };
      }

-- A head becomes ready ---------------------------------------------------------------------------

-- its pair's head is to be found anew, the others stand
module _ {cs : List Cell} {qs : PairQueues} (q : Queues All cs qs) (k : ℕ) (l : k < length cs) where
  next : List Cell
  next = set cs k (placed 2 (nth cs k))

  next_long : length next ≡ length cs
  unfolding next
  next_long = length-set cs k (placed 2 (nth cs k))

  at_other : (j : ℕ) → (j ≡ k → ⊥) → nth next j ≡ nth cs j
  unfolding next
  at_other j n = get_or-set_other cs k j (placed 2 (nth cs k)) free n

  -- a cell that still waits is another one
  still : (j : ℕ) → (nth next j).place ≡ 1 → nth next j ≡ nth cs j
  unfolding next
  still j h = placed_waits cs k l j h

  alike : (i o j : ℕ) → But (nth cs k).input.0 (nth cs k).output.0 i o → waits_for i o (nth next j) ≡ waits_for i o (nth cs j)
  alike i o j ne =
      same_test _ _
      (λ h. subst (λ (c : Cell). So (waits_for i o c)) (still j (waiting→ _ (waits→ i o (nth next j) h).0)) h)
      (λ h. ⊎_elim
      (λ x. absurd (ne (own (eqb-true j k x) h)))
      (λ x. subst (λ (c : Cell). So (waits_for i o c)) (sym (at_other j (eqb-false j k x))) h)
      (passes (eqb j k)))
    where
      own : j ≡ k → So (waits_for i o (nth cs j)) → pair i o ≡ pair (nth cs k).input.0 (nth cs k).output.0
      own e h =
          let w = waits→ i o (nth cs j) h in
          omega (arith, w.1, w.2, ap (λ (c : ℕ). (nth cs c).input.0) e, ap (λ (c : ℕ). (nth cs c).output.0) e)

  same-cell : (j : ℕ) → Same (nth next j) (nth cs j)
  unfolding next
  same-cell j = placed-cell cs k l j

  head_stays : (i o : ℕ) → But (nth cs k).input.0 (nth cs k).output.0 i o → head_of next i o ≡ head_of cs i o
  unfolding head_below
  head_stays i o ne =
      ap (λ (n : ℕ). head_below next n i o) next_long
      ∙ least-same _ _ _ _ (length cs) (λ j m. alike i o j ne)
      (λ a b m n. older-same (nth next a) (nth cs a) (nth next b) (nth cs b) (same-cell a) (same-cell b))

  pub queues_take : Queues (But (nth cs k).input.0 (nth cs k).output.0) (set cs k (placed 2 (nth cs k))) qs
  unfolding next
  queues_take = record {
    cl = q.cl;
    long = q.long;
    ports = in_ports_still next_long (λ j m w. still j w) q.ports;
    chains = rw next_long q.chains;
    covers = λ j m w. let s = still j (waiting→ _ w) in rw s (q.covers j (rw next_long at m) (rw s at w));
    heads = record {
      head = λ i o a b ne. q.heads.head i o a b tt ∙ ap name_of (sym (head_stays i o ne));
      sends = λ i o a b ne. q.heads.sends i o a b tt ∙ ap is_found (sym (head_stays i o ne));
      wants = λ i o a b ne f. q.heads.wants i o a b tt (ap is_found (sym (head_stays i o ne)) ∙ f);
    };
  }
