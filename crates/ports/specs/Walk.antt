-- A walk over a set of ports: what a turn of it gives and leaves.
-- Assumes nothing.
use Rattle.std.specs.Prelude.{◌≡◌, ℕ, Option, Some, None}
use Rattle.laws.specs.Least.{lowest}
use Rattle.laws.proofs.Least.{lowest_nothing}
use Rattle.ports.specs.declared.Ports.{Ports}
use Rattle.ports.specs.Ports.{mask_ports, has, Visits}
use Rattle.ports.specs.PortLaws.{has-none}

-- the lowest port that is left is visited; the walk ends where none is
abbrev pub Walks : Ports → Option ℕ → Ports → Type 0
Walks s (Some o) t = Visits s.left.mask o t.left.mask
Walks s None t = s.left.mask ≡ 0

pub lowest_empty : lowest (has 0) mask_ports ≡ None
lowest_empty = lowest_nothing (has 0) mask_ports (λ q l. has-none q)
