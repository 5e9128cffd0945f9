-- Sets of ports as numbers: port q is in the set m when binary digit q of m is 1.
-- Assumes nothing.
use Rattle.std.specs.Prelude.{◌≡◌, Bool, not, cond, ◌&&◌, ℕ, ◌-◌, ◌/◌, ◌%◌, ◌^◌, ◌<◌, eqb, ltb}
use Rattle.std.proofs.Math.Bool.{So}
use Rattle.std.specs.Int.Bits.{bit_or, bit_and, bit_xor}
use Rattle.laws.specs.Tests.{No}
use Rattle.ports.specs.declared.PortSet.{PortSet}
use Rattle.ports.specs.declared.Tied.{Tied}

-- how many ports a set has room for: the binary digits of a mask
abbrev pub mask_ports : ℕ
mask_ports = 16

-- binary digit q of m
unfoldable pub digit : ℕ → ℕ → ℕ
digit m q = m / 2 ^ q % 2

-- port q is in the set m
unfoldable pub has : ℕ → ℕ → Bool
has m q = eqb (digit m q) 1

-- the set m with the port p added; with a port of it taken out; without the ports of the set k
unfoldable pub with_port : ℕ → ℕ → ℕ
with_port m p = bit_or m (2 ^ p)

unfoldable pub without_port : ℕ → ℕ → ℕ
without_port m p = m - 2 ^ p

unfoldable pub except_ports : ℕ → ℕ → ℕ
except_ports m k = bit_xor m (bit_and m k)

-- the set that a mask is
abbrev pub set_of : ℕ → PortSet
set_of m = record { mask = m }

-- the ports with the lowest reading, once port p, whose reading is x, is among those looked at
unfoldable pub lowered : Tied → ℕ → ℕ → Tied
lowered l p x =
    cond (eqb l.ports.mask 0) (record { ports = set_of (with_port 0 p); reading = x })
    (cond (ltb x l.reading) (record { ports = set_of (with_port 0 p); reading = x })
    (cond (ltb l.reading x) l (record { ports = set_of (with_port l.ports.mask p); reading = l.reading })))

-- What these sets are, by their members ----------------------------------------------------------

-- r is the set m with the port p added
pub record Added (m p r : ℕ) : Type 0 where
  pub inside : So (has r p)
  pub others : (q : ℕ) → (q ≡ p → ⊥) → has r q ≡ has m q

-- r is the set m with the port p taken out
pub record Removed (m p r : ℕ) : Type 0 where
  pub outside : No (has r p)
  pub others : (q : ℕ) → (q ≡ p → ⊥) → has r q ≡ has m q

-- r is the set m without the ports of the set k
pub record Except (m k r : ℕ) : Type 0 where
  pub each : (q : ℕ) → has r q ≡ has m q && not (has k q)

-- r is the lowest port in the set m
pub record Lowest (m r : ℕ) : Type 0 where
  pub small : r < mask_ports
  pub inside : So (has m r)
  pub least : (q : ℕ) → q < r → No (has m q)

-- o is the lowest port in the set m, and rest is what a walk over the set has left once it was visited
pub record Visits (m o rest : ℕ) : Type 0 where
  pub lowest : Lowest m o
  pub removed : Removed m o rest
  pub less : rest < m
