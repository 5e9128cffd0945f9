-- The queues' parts, and what a word of them names. `PAIRS` and the others of the code are the same numbers.
-- Assumes nothing.
use Rattle.std.specs.Prelude.{ℕ, zero, suc, ◌+◌, ◌-◌, ◌*◌, ◌<◌, ◌≡◌, refl, Bool, true, false, length, get_or, replicate, Option, Some, None}
use Rattle.std.proofs.Common.{ap, arith}
use Rattle.rules.specs.declared.Cell.{Cell}
use Rattle.rules.specs.Cells.{most_ports, most_records}
use Rattle.ports.specs.Ports.{set_of}
use Rattle.queues.specs.declared.PairQueues.{PairQueues}

-- how many pairs of input and output there are
abbrev pub pairs : ℕ
pairs = most_ports * most_ports

-- each part has a place for each pair, record or output
pub record Long (qs : PairQueues) : Type 0 where
  pub heads : length qs.heads ≡ pairs
  pub tops : length qs.tops ≡ pairs
  pub links : length qs.links ≡ most_records
  pub senders : length qs.senders ≡ most_ports

-- the number of a pair of input and output
abbrev pub pair : ℕ → ℕ → ℕ
pair i o = i * most_ports + o

abbrev pub pair_of : Cell → ℕ
pair_of c = pair c.input.0 c.output.0

pub same-pair : (x y i o : ℕ) → y < most_ports → o < most_ports → pair x y ≡ pair i o → (x ≡ i) × (y ≡ o)
same-pair x y i o m l t = (omega arith, omega arith)

-- the words of the parts
abbrev pub head_word : PairQueues → ℕ → ℕ → ℕ
head_word qs i o = get_or qs.heads (pair i o) 0

abbrev pub top_word : PairQueues → ℕ → ℕ
top_word qs p = get_or qs.tops p 0

abbrev pub next_word : PairQueues → ℕ → ℕ
next_word qs k = get_or qs.links k 0

abbrev pub senders : PairQueues → ℕ → ℕ
senders qs o = (get_or qs.senders o (set_of 0)).mask

abbrev pub wanted : PairQueues → ℕ
wanted qs = qs.wanted.mask

-- the queues before any record has joined
abbrev pub no_queues : PairQueues
no_queues = record {
  heads = replicate pairs 0;
  tops = replicate pairs 0;
  links = replicate most_records 0;
  senders = replicate most_ports (set_of 0);
  wanted = set_of 0;
}

-- a record is named by its number + 1; 0 names none
abbrev pub name_of : Option ℕ → ℕ
name_of (Some k) = suc k
name_of None = 0

abbrev pub named : ℕ → Option ℕ
named zero = None
named (suc k) = Some k

pub named_name : (x : Option ℕ) → named (name_of x) ≡ x
named_name (Some k) = refl
named_name None = refl

-- the word that a record has, and the one that no record has
pub word_some : (w k : ℕ) → named w ≡ Some k → w ≡ suc k
word_some zero k e = cc
word_some (suc j) k e = cc

pub word_none : (w : ℕ) → named w ≡ None → w ≡ 0
word_none zero e = refl
word_none (suc j) e = cc

pub named_word : (w : ℕ) → (w ≡ 0 → ⊥) → Some (w - 1) ≡ named w
named_word zero h = absurd (h refl)
named_word (suc k) h = ap Some (omega arith)

abbrev pub is_found : Option ℕ → Bool
is_found (Some k) = true
is_found None = false
