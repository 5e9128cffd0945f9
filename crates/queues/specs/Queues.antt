-- The waiting cells by pair of input and output: what their words say of a table, how they come to say it, and what the calls ask for.
-- Assumes nothing.
use Rattle.std.specs.Prelude.{ℕ, suc, ◌<◌, ◌≤◌, ◌≡◌, Bool, cond, ◌&&◌, List, eqb, length, set, Option, Some, None}
use Rattle.std.proofs.Math.Bool.{So}
use Rattle.std.proofs.Common.{eqb-true, eq-eqb}
use Rattle.laws.specs.Tests.{both, join}
use Rattle.laws.specs.Walk.{over}
use Rattle.laws.specs.Least.{least}
use Rattle.laws.specs.First.{first_found}
use Rattle.ports.specs.Ports.{has, with_port, except_ports, set_of}
use Rattle.rules.specs.declared.Input.{Input}
use Rattle.rules.specs.declared.Output.{Output}
use Rattle.rules.specs.declared.Cell.{Cell}
use Rattle.rules.specs.Cells.{most_ports, most_records, nth, is_waiting, records, cells_of}
use Rattle.ideal.specs.InPorts.{InPorts}
use Rattle.table.specs.Table.{older_at}
use Rattle.queues.specs.declared.PairQueues.{PairQueues}
use Rattle.queues.specs.Layout.{pairs, pair, pair_of, Long}
use Rattle.queues.specs.Layout.{head_word, top_word, next_word, senders, wanted, no_queues, name_of, named, is_found}

-- What the words say of a table ------------------------------------------------------------------

-- a waiting cell of input i for output o
unfoldable pub waits_for : ℕ → ℕ → Cell → Bool
waits_for i o c = is_waiting c && eqb c.input.0 i && eqb c.output.0 o

pub waits→ : (i o : ℕ) (c : Cell) → So (waits_for i o c) → So (is_waiting c) × (c.input.0 ≡ i) × (c.output.0 ≡ o)
unfolding waits_for
waits→ i o c h =
    let a = both (is_waiting c && eqb c.input.0 i) _ h in
    let b = both (is_waiting c) _ a.0 in
    (b.0, eqb-true c.input.0 i b.1, eqb-true c.output.0 o a.1)

pub →waits : (i o : ℕ) (c : Cell) → So (is_waiting c) → c.input.0 ≡ i → c.output.0 ≡ o → So (waits_for i o c)
unfolding waits_for
→waits i o c h a b = join _ _ (join _ _ h (eq-eqb _ _ a)) (eq-eqb _ _ b)

-- of the cells of a pair among the first n records, the oldest
unfoldable pub head_below : List Cell → ℕ → ℕ → ℕ → Option ℕ
head_below cs n i o = least (λ k. waits_for i o (nth cs k)) (older_at cs) n

abbrev pub head_of : List Cell → ℕ → ℕ → Option ℕ
head_of cs i o = head_below cs (length cs) i o

-- v names the highest record below b that is of pair p, where record k is of pair (cl k)
pub record Link (cl : ℕ → ℕ) (p b v : ℕ) : Type 0 where
  pub within : v ≤ b
  pub member : (k : ℕ) → v ≡ suc k → cl k ≡ p
  pub highest : (j : ℕ) → v ≤ j → j < b → cl j ≡ p → ⊥

-- the chains of the first n records; what is of no pair has a number from `pairs` on
pub record Chains (cl : ℕ → ℕ) (n : ℕ) (qs : PairQueues) : Type 0 where
  pub tops : (p : ℕ) → p < pairs → Link cl p n (top_word qs p)
  pub nexts : (k : ℕ) → k < n → cl k < pairs → Link cl (cl k) k (next_word qs k)

-- the heads of the first n records, for the pairs that P names
pub record Heads (P : ℕ → ℕ → Type 0) (cs : List Cell) (n : ℕ) (qs : PairQueues) : Type 0 where
  pub head : (i o : ℕ) → i < most_ports → o < most_ports → P i o → head_word qs i o ≡ name_of (head_below cs n i o)
  pub sends : (i o : ℕ) → i < most_ports → o < most_ports → P i o → has (senders qs o) i ≡ is_found (head_below cs n i o)
  pub wants : (i o : ℕ) → i < most_ports → o < most_ports → P i o → So (is_found (head_below cs n i o)) → So (has (wanted qs) o)

-- every pair, and every pair but one
abbrev pub All : ℕ → ℕ → Type 0
All i o = Unit {0}

abbrev pub But : ℕ → ℕ → ℕ → ℕ → Type 0
But a b i o = pair i o ≡ pair a b → ⊥

-- a table's queues; the pairs are those of a table whose waiting cells all of cs were among
pub record Queues (P : ℕ → ℕ → Type 0) (cs : List Cell) (qs : PairQueues) : Type 0 where
  pub cl : ℕ → ℕ
  pub long : Long qs
  pub ports : InPorts most_ports cs
  pub chains : Chains cl (length cs) qs
  pub covers : (k : ℕ) → k < length cs → So (is_waiting (nth cs k)) → cl k ≡ pair_of (nth cs k)
  pub heads : Heads P cs (length cs) qs

-- How they come to say it ------------------------------------------------------------------------

-- record k, where it waits
unfoldable pub waiting_at : List Cell → ℕ → Option ℕ
waiting_at cs k = cond (is_waiting (nth cs k)) (Some k) None

-- a waiting cell's pair; `pairs` for any other
unfoldable pub class_of : List Cell → ℕ → ℕ
class_of cs k = cond (is_waiting (nth cs k)) (pair_of (nth cs k)) pairs

-- record k becomes the top of the chain of pair p
unfoldable pub linked : PairQueues → ℕ → ℕ → PairQueues
linked qs p k = record {
  heads = qs.heads;
  tops = set qs.tops p (suc k);
  links = set qs.links k (top_word qs p);
  senders = qs.senders;
  wanted = qs.wanted;
}

-- a pair gets another head, or none; an output that once was wanted stays so
unfoldable pub head_set : PairQueues → ℕ → ℕ → Option ℕ → PairQueues
head_set qs i o (Some k) = record {
  heads = set qs.heads (pair i o) (suc k);
  tops = qs.tops;
  links = qs.links;
  senders = set qs.senders o (set_of (with_port (senders qs o) i));
  wanted = set_of (with_port (wanted qs) o);
}
head_set qs i o None = record {
  heads = set qs.heads (pair i o) 0;
  tops = qs.tops;
  links = qs.links;
  senders = set qs.senders o (set_of (except_ports (senders qs o) (with_port 0 i)));
  wanted = qs.wanted;
}

-- Record k joins: it becomes the top of its pair's chain, is compared with the head of its pair, and the older is the head.
abbrev pub chained : List Cell → ℕ → PairQueues → PairQueues
chained cs k qs = linked qs (pair_of (nth cs k)) k

abbrev pub old_head : List Cell → ℕ → PairQueues → Option ℕ
old_head cs k qs = named (head_word qs (nth cs k).input.0 (nth cs k).output.0)

abbrev pub new_head : List Cell → ℕ → PairQueues → Option ℕ
new_head cs k qs = first_found (older_at cs) (old_head cs k qs) (waiting_at cs k)

unfoldable pub compared : List Cell → ℕ → PairQueues → PairQueues
compared cs k qs = head_set qs (nth cs k).input.0 (nth cs k).output.0 (new_head cs k qs)

-- where it waits
unfoldable pub joined : List Cell → ℕ → PairQueues → PairQueues
joined cs k qs = cond (is_waiting (nth cs k)) (compared cs k (chained cs k qs)) qs

-- the first n records have joined, and all
unfoldable pub lined_to : List Cell → ℕ → PairQueues
lined_to cs n = over (joined cs) no_queues n

abbrev pub lined_up : List Cell → PairQueues
lined_up cs = lined_to cs (length cs)

-- What the calls ask for -------------------------------------------------------------------------

-- an input and an output that there are
pub record Ports (i : Input) (o : Output) : Type 0 where
  pub input : i.0 < most_ports
  pub output : o.0 < most_ports

-- a table that can be lined up: its records have names, its waiting cells ports that there are
pub record Lineable (table : List ℕ) : Type 0 where
  pub few : records table ≤ most_records
  pub ports : InPorts most_ports (cells_of table)

-- the words say of the first n records what they say of a table
pub record LinedTo (cs : List Cell) (n : ℕ) (qs : PairQueues) : Type 0 where
  pub long : Long qs
  pub chains : Chains (class_of cs) n qs
  pub heads : Heads All cs n qs

-- record k can join: the queues are those of the records below it
pub record Joinable (table : List ℕ) (k : ℕ) (qs : PairQueues) : Type 0 where
  pub inside : k < records table
  pub lineable : Lineable table
  pub below : LinedTo (cells_of table) k qs

-- the head of one pair is no longer known; the others stand
pub record Stale (table : List ℕ) (qs : PairQueues) (i : Input) (o : Output) : Type 0 where
  pub few : records table ≤ most_records
  pub ports : Ports i o
  pub queues : Queues (But i.0 o.0) (cells_of table) qs
