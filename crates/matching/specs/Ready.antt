-- What the calls of a transfer phase ask for.
-- Assumes nothing.
use Rattle.std.specs.Prelude.{ℕ, ◌<◌, ◌≤◌, ◌≡◌, List, length}
use Rattle.rules.specs.declared.Cell.{Cell}
use Rattle.rules.specs.Cells.{most_ports, most_records, nth, placed, records, cells_of}
use Rattle.words.specs.Words.{length-cells_of}
use Rattle.ideal.specs.InPorts.{InPorts, in_ports_wider}
use Rattle.table.specs.Table.{stored, records-stored, cells_of-stored}
use Rattle.queues.specs.declared.PairQueues.{PairQueues}
use Rattle.queues.specs.Queues.{Ports, All, Heads, Queues, Lineable, Stale, head_of, head_set}
use Rattle.queues.specs.Heads.{queues_take, renewed}

-- no more ports and records than there can be, and the waiting cells' ports are those of the switch
pub record Orderly (n : ℕ) (table : List ℕ) : Type 0 where
  pub small : n ≤ most_ports
  pub few : records table ≤ most_records
  pub inside : InPorts n (cells_of table)

pub orderly_lineable : {n : ℕ} {table : List ℕ} → Orderly n table → Lineable table
orderly_lineable o = record { few = o.few; ports = in_ports_wider o.small o.inside }

-- the queues know each head of the table, and whom the waiting cells are for
pub record LinedUp (cs : List Cell) (qs : PairQueues) : Type 0 where
  pub ports : InPorts most_ports cs
  pub heads : Heads All cs (length cs) qs

-- and the queues are the table's
pub record Ready (n : ℕ) (table : List ℕ) (qs : PairQueues) : Type 0 where
  pub orderly : Orderly n table
  pub queues : Queues All (cells_of table) qs

-- record k can be taken: its ports are known to be ports
pub record Takeable (table : List ℕ) (qs : PairQueues) (k : ℕ) : Type 0 where
  pub inside : k < records table
  pub few : records table ≤ most_records
  pub queues : Queues All (cells_of table) qs
  pub ports : Ports (nth (cells_of table) k).input (nth (cells_of table) k).output

-- Once it is ready, the head of its pair is no longer known; found anew, it is. The cell c is the record as it was read.
module _ {table : List ℕ} {qs : PairQueues} {vs : List ℕ} {k : ℕ} (t : Takeable table qs k) {c : Cell} (read : c ≡ nth (cells_of table) k)
    (e : vs ≡ stored table k (placed 2 (nth (cells_of table) k))) where
  pub taken_stale : Stale vs qs c.input c.output
  taken_stale = record {
    few = rw (e, records-stored table k (placed 2 (nth (cells_of table) k))) t.few;
    ports = rw read t.ports;
    queues = rw (e, cells_of-stored table k (placed 2 (nth (cells_of table) k)), read) (queues_take t.queues k (rw (length-cells_of table) t.inside));
  }

  pub taken_queues : {ns : PairQueues} → ns ≡ head_set qs c.input.0 c.output.0 (head_of (cells_of vs) c.input.0 c.output.0)
      → Queues All (cells_of vs) ns
  taken_queues q = rw q (renewed taken_stale)
