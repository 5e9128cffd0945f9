-- A walk over the records whose places have some of the bits that are asked for: what a turn of it gives and leaves, and what a caller makes of that.
-- Assumes nothing.
use Rattle.std.specs.Prelude.{ℕ, ◌+◌, ◌-◌, ◌≤◌, ◌<◌, ◌≡◌, Bool, List, Option, Some, None}
use Rattle.std.proofs.Common.{arith}
use Rattle.std.specs.Int.Bits.{bit_and}
use Rattle.std.proofs.Math.Bool.{So}
use Rattle.laws.specs.Tests.{No}
use Rattle.laws.specs.Walk.{walk_on}
use Rattle.laws.specs.Sifted.{past}
use Rattle.rules.specs.Cells.{nth, records, cells_of}
use Rattle.sift.specs.declared.walk.Records.{Records}

-- the place of record x has none of the bits
abbrev pub Bare : List ℕ → ℕ → ℕ → Type 0
Bare ws bits x = bit_and (nth (cells_of ws) x).place bits ≡ 0

-- where a walk has come to: the records below were passed
unfoldable pub reached : Records → ℕ
reached s = s.from + past s.listed.list s.turn

-- a walk over the records of these words with these bits, that begins with the first one
pub record Starts (ws : List ℕ) (bits : ℕ) (s : Records) : Type 0 where
  pub words : s.table.now ≡ ws
  pub bits_are : s.bits ≡ bits
  pub first : reached s ≡ 0

-- k is the first record from `at` on that has one of the bits
pub record Next (ws : List ℕ) (bits at k : ℕ) : Type 0 where
  pub forth : at ≤ k
  pub inside : k < records ws
  pub some : Bare ws bits k → ⊥
  pub between : (x : ℕ) → at ≤ x → x < k → Bare ws bits x

-- there is none from `at` on
pub record Last (ws : List ℕ) (bits at : ℕ) : Type 0 where
  pub inside : at ≤ records ws
  pub rest : (x : ℕ) → at ≤ x → x < records ws → Bare ws bits x

-- the records from `at` up to `on` have none
pub record Passed (ws : List ℕ) (bits at on : ℕ) : Type 0 where
  pub forth : at ≤ on
  pub bare : (x : ℕ) → at ≤ x → x < on → Bare ws bits x

-- the walk has come from s to t, where r tells whether the stretch of t lists a record that was not given yet
pub record Sought (s : Records) (r : Bool) (t : Records) : Type 0 where
  pub words : t.table.now ≡ s.table.now
  pub bits_are : t.bits ≡ s.bits
  pub passed : Passed s.table.now s.bits (reached s) (reached t)
  pub found : So r → t.turn < t.listed.count
  pub none : No r → Last s.table.now s.bits (reached s)

pub record Turn (s : Records) (k : ℕ) (t : Records) : Type 0 where
  pub next : Next s.table.now s.bits (reached s) k
  pub words : t.table.now ≡ s.table.now
  pub bits_are : t.bits ≡ s.bits
  pub on : reached t ≡ k + 1

abbrev pub Walks : Records → Option ℕ → Records → Type 0
Walks s (Some k) t = Turn s k t
Walks s None t = Last s.table.now s.bits (reached s)

-- what every record without the bits keeps is brought to the next one that is found, and from the last one to the end
module _ {ws : List ℕ} {bits : ℕ} (P : ℕ → Type 0) (keeps : (x : ℕ) → x < records ws → Bare ws bits x → P x → P (x + 1)) where
  pub to_next : {at k : ℕ} → Next ws bits at k → P at → P k
  to_next {at} {k} h p =
      let e : at + (k - at) ≡ k = omega (arith, h.forth) in
      rw e at (walk_on P at (k - at) (λ x a b. keeps x (omega (arith, h.forth, h.inside)) (h.between x a (omega (arith, h.forth)))) p)

  pub to_last : {at : ℕ} → Last ws bits at → P at → P (records ws)
  to_last {at} h p =
      let e : at + (records ws - at) ≡ records ws = omega (arith, h.inside) in
      rw e at (walk_on P at (records ws - at) (λ x a b. keeps x (omega (arith, h.inside)) (h.rest x a (omega (arith, h.inside)))) p)
