-- What is counted of a table: the ready cells for an output, those younger than a cell, and the waiting cells that stand before one. A table
-- is the record at each number below n.
-- Assumes nothing.
use Rattle.std.specs.Prelude.{◌≡◌, Bool, ◌&&◌, ℕ, ◌+◌, ◌*◌, ◌≤◌, ◌<◌, leb, ltb, eqb}
use Rattle.std.proofs.Common.{⊎_elim}
use Rattle.std.proofs.Math.Bool.{So}
use borrow.Author.Tests.{leb-true, le-leb, ltb-true, ltb-false, lt-ltb, eqb-true, eq-eqb}
use Rattle.laws.specs.Tests.{No, both, join, passes, refuted}
use Rattle.laws.specs.Count.{count}
use Rattle.rules.specs.declared.Cell.{Cell}
use Rattle.rules.specs.Cells.{output_of, is_ready_for}
use Rattle.ideal.specs.Cells.{ready_for→, →ready_for}
use Rattle.demands.specs.Ages.{standing}

-- the ready cells for an output, of n records
abbrev pub ready_in : ℕ → (ℕ → Cell) → ℕ → ℕ
ready_in n t o = count (λ k. is_ready_for (output_of o) (t k)) n

-- c waits where l does, and is l or stands before it
unfoldable pub is_ahead : (ℕ → ℕ) → Cell → Cell → Bool
is_ahead r l c = eqb c.place 1 && eqb c.input.0 l.input.0 && leb (standing r c) (standing r l)

module _ (r : ℕ → ℕ) (l c : Cell) where
  pub ahead→ : So (is_ahead r l c) → (c.place ≡ 1) × (c.input.0 ≡ l.input.0) × (standing r c ≤ standing r l)
  unfolding is_ahead
  ahead→ h = let a = both _ _ h in let b = both _ _ a.0 in (eqb-true _ _ b.0, eqb-true _ _ b.1, leb-true _ _ a.1)

  pub →ahead : c.place ≡ 1 → c.input.0 ≡ l.input.0 → standing r c ≤ standing r l → So (is_ahead r l c)
  unfolding is_ahead
  →ahead h k m = join _ _ (join _ _ (eq-eqb _ _ h) (eq-eqb _ _ k)) (le-leb _ _ m)

-- c is ready for f's output, with a higher key than f
unfoldable pub is_younger : (Cell → ℕ) → Cell → Cell → Bool
is_younger key f c = is_ready_for f.output c && ltb (key f) (key c)

module _ (key : Cell → ℕ) (f c : Cell) where
  pub younger→ : So (is_younger key f c) → (c.place ≡ 2) × (c.output.0 ≡ f.output.0) × (key f < key c)
  unfolding is_younger
  younger→ h = let a = both _ _ h in let b = ready_for→ f.output c a.0 in (b.0, b.1, ltb-true _ _ a.1)

  pub →younger : c.place ≡ 2 → c.output.0 ≡ f.output.0 → key f < key c → So (is_younger key f c)
  unfolding is_younger
  →younger h k m = join _ _ (→ready_for f.output c h k) (lt-ltb _ _ m)

  pub not_younger : c.place ≡ 2 → c.output.0 ≡ f.output.0 → No (is_younger key f c) → key c ≤ key f
  not_younger h k m = ⊎_elim (λ x. absurd (refuted (→younger h k (ltb-true _ _ x)) m)) (λ x. ltb-false _ _ x) (passes (ltb (key f) (key c)))

-- The invariant, for a reading r. Of a waiting cell l and a cell f that is l or stands before it at its input: the younger ready cells for
-- f's output, and v for each cell that is l or stands before it, and a, are at most the ready cells for l's output, and b.
-- By age: key is the age, v is 2. Busy outputs: key is 0, v is 1.
pub record Slack (n : ℕ) (key : Cell → ℕ) (v : ℕ) (r : ℕ → ℕ) (t : ℕ → Cell) (a b : ℕ) : Type 0 where
  pub slack : (f l : ℕ) → f < n → l < n → (t l).place ≡ 1 → So (is_ahead r (t l) (t f))
      → count (λ k. is_younger key (t f) (t k)) n + v * count (λ k. is_ahead r (t l) (t k)) n + a ≤ ready_in n t (t l).output.0 + b
