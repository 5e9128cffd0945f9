-- A walk over records: what its stretch tells of the records from where it has come to, and how what was passed is joined.
use Rattle.std.proofs.Common.{◌≡◌, ℕ, List, ◌+◌, ◌-◌, ◌≤◌, ◌<◌, get_or, ap, ⊎_elim, arith, ltb, ltb-true, ltb-false, eq-eqb}
use Rattle.laws.specs.Tests.{passes, refuted, denied}
use Rattle.laws.specs.Sifted.{chosen_passes}
use Rattle.rules.specs.Cells.{records}
use Rattle.sift.specs.declared.walk.Records.{Records}
use Rattle.sift.specs.Stretch.{has_bits, Lacks, listed_sifted}
use Rattle.sift.specs.Walk.{Bare, Next, Last, Turn, Passed, reached}

module _ {ws : List ℕ} {bits at on : ℕ} (p : Passed ws bits at on) where
  -- of the same words and bits
  pub passed_as : {vs : List ℕ} {others : ℕ} → ws ≡ vs → bits ≡ others → Passed vs others at on
  passed_as e q = rw (← e, ← q) p

  -- each record from `at` on is passed, or is one of those from `on` on
  both_ways : (P : ℕ → Type 0) (x : ℕ) → at ≤ x → (x < on → P x) → (on ≤ x → P x) → P x
  both_ways P x a f g = ⊎_elim (λ h. f (ltb-true x on h)) (λ h. g (ltb-false x on h)) (passes (ltb x on))

  pub passed_on : {to : ℕ} → Passed ws bits on to → Passed ws bits at to
  passed_on q = record {
    forth = omega (arith, p.forth, q.forth);
    bare = λ x a b. both_ways (Bare ws bits) x a (p.bare x a) (λ l. q.bare x l b);
  }

  pub passed_next : {k : ℕ} → Next ws bits on k → Next ws bits at k
  passed_next n = record {
    forth = omega (arith, p.forth, n.forth);
    inside = n.inside;
    some = n.some;
    between = λ x a b. both_ways (Bare ws bits) x a (p.bare x a) (λ l. n.between x l b);
  }

  pub passed_last : on ≡ records ws → Last ws bits at
  passed_last e = record { inside = omega (arith, p.forth); rest = λ x a b. p.bare x a (omega arith) }

module _ (s : Records) where
  -- what stands in the stretch at the number x is record s.from + x
  bare_at : (x : ℕ) → s.from ≤ x → Lacks s.table.now s.from s.bits (x - s.from) → Bare s.table.now s.bits x
  bare_at x l h = let e : s.from + (x - s.from) ≡ x = omega arith in rw e at h

  -- the next record listed
  pub next_listed : s.turn < s.listed.count → Next s.table.now s.bits (reached s) (s.from + get_or s.listed.list s.turn 0)
  unfolding reached has_bits
  next_listed l =
      let d = listed_sifted s.are_listed in
      let r = d.rising s.turn l in
      let h = chosen_passes (has_bits s.table.now s.from s.bits) s.are_listed.numbers s.turn l in
      record {
        forth = omega (arith, r.0);
        inside = omega (arith, r.1, s.stretch);
        some = λ e. refuted (eq-eqb _ 0 e) (denied _ h);
        between = λ x a b. bare_at x (omega arith) (d.gaps s.turn l (x - s.from) (omega arith) (omega arith));
      }

  -- none is left
  pub end_passed : s.listed.count ≤ s.turn → Passed s.table.now s.bits (reached s) s.end
  unfolding reached
  end_passed l =
      let d = listed_sifted s.are_listed in
      let e : s.turn ≡ s.listed.count = omega (arith, s.turned) in
      record {
        forth = rw e (omega (arith, d.reach, s.stretch.forth));
        bare = λ x a b. bare_at x (omega arith) (d.rest (x - s.from) (omega (arith, rw e at a)) (omega (arith, s.stretch.forth)));
      }

-- of the same words and bits
pub next_as : {ws vs : List ℕ} {bits others at k : ℕ} → ws ≡ vs → bits ≡ others → Next ws bits at k → Next vs others at k
next_as e q n = rw (← e, ← q) n

-- each turn leaves fewer records ahead
pub turn_less : {s t : Records} {k : ℕ} → Turn s k t → records t.table.now - reached t < records s.table.now - reached s
turn_less h = omega (arith, ap records h.words, h.on, h.next.forth, h.next.inside)
