-- The reading, counted record by record, and the oldest ready cell: passes over the ready records alone.
-- Assumes nothing.
use Rattle.std.specs.Prelude.{ℕ, ◌+◌, ◌%◌, ◌≤◌, ◌<◌, ◌≡◌, Bool, ◌&&◌, List, length, replicate, Option}
use Rattle.std.proofs.Math.Path.{refl, sym}
use Rattle.std.proofs.Common.{ap, subst, ◌∙◌}
use Rattle.std.proofs.Math.Logic.{⊎_elim}
use Rattle.std.proofs.Math.Bool.{true, false, cond, and-true}
use native.Mathlib.Omega.{arith}
use Rattle.std.proofs.Math.Numerals.{add-one}
use Rattle.std.proofs.Math.Dec.{eqb, ltb}
use Rattle.std.proofs.Math.ListN.{get_or, set, get_or-replicate, get_or-eq_default}
use Rattle.std.proofs.Math.Seq.{ext_get_or}
use Rattle.std.proofs.lemmas.List.{set-get_or}
use borrow.Author.Tests.{eqb-true, eqb-false, eq-eqb, ne_eqb, ltb-true, ltb-false}
use Rattle.laws.specs.Tests.{No, both, passes, to_no}
use Rattle.laws.specs.Count.{bit, count, count_zero, count_suc, count_le}
use Rattle.laws.specs.Lists.{tabulate, length-tabulate, get_or-tabulate, tabulate-same, tabulate-get_or, set-tabulate}
use Rattle.laws.specs.Least.{sooner, least, least_more, sooner_skip}
use Rattle.laws.specs.Bits.{and_none}
use Rattle.rules.specs.declared.Cell.{Cell}
use Rattle.rules.specs.declared.Output.{Output}
use Rattle.rules.specs.Cells.{most_ports, output_of, nth, records, cells_of, is_ready, same_output, is_ready_for}
use Rattle.rules.specs.Phases.{ready_count, readings}
use Rattle.sift.specs.declared.walk.Records.{Records}
use Rattle.sift.specs.Stretch.{ready_bit}
use Rattle.sift.specs.Walk.{Bare, Starts, Next, Last, Turn, reached, to_next, to_last}
use Rattle.table.specs.Table.{older_at}

-- a cell that is ready for some output
unfoldable pub is_counted : Cell → Bool
is_counted c = is_ready c && ltb c.output.0 most_ports

-- one more for each output that c is ready for
unfoldable pub bumped : List ℕ → Cell → List ℕ
bumped ns c = tabulate most_ports (λ o. bit (is_ready_for (output_of o) c) + get_or ns o 0)

module _ (ns : List ℕ) (e : length ns ≡ most_ports) (c : Cell) where
  -- a cell that no output's unit holds ready changes no count
  bump_none : ((o : ℕ) → o < most_ports → No (is_ready_for (output_of o) c)) → ns ≡ bumped ns c
  unfolding bumped
  bump_none h = sym (tabulate-same 0 _ (λ o. get_or ns o 0) most_ports (λ o l. rw (h o l) (omega arith)) ∙ rw e at (tabulate-get_or 0 ns))

  not-ready : (c.place ≡ 2 → ⊥) → ns ≡ bumped ns c
  unfolding is_ready_for is_ready
  not-ready h = bump_none (λ o l. rw (ne_eqb _ _ h))

  no_such_output : most_ports ≤ c.output.0 → ns ≡ bumped ns c
  unfolding is_ready_for same_output
  no_such_output h = bump_none (λ o l. to_no (λ x. omega (arith, eqb-true c.output.0 o (both (is_ready c) _ x).1)))

  -- a ready cell is one more for its output, and no other is
  here : (b : Bool) (n m : ℕ) → n ≡ m → n + bit b ≡ bit (b && true) + m
  here true n m h = omega arith
  here false n m h = omega arith

  there : (b : Bool) (n : ℕ) → n ≡ bit (b && false) + n
  there true n = omega arith
  there false n = omega arith

  -- its output's number, and the count kept there
  abbrev out : ℕ
  out = c.output.0

  one_more : set ns out (get_or ns out 0 + bit (is_ready c)) ≡ bumped ns c
  unfolding bumped is_ready_for same_output
  one_more = rw e at (set-tabulate 0 ns out (get_or ns out 0 + bit (is_ready c))) ∙ tabulate-same 0 _ _ most_ports (λ o l. go o (eqb o out) refl)
    where
      go : (o : ℕ) (b : Bool) → eqb o out ≡ b
          → cond b (get_or ns out 0 + bit (is_ready c)) (get_or ns o 0) ≡ bit (is_ready c && eqb out o) + get_or ns o 0
      go o true q = let h : o ≡ out = eqb-true _ _ q in rw (eq-eqb out o (sym h)) (here (is_ready c) _ _ (ap (λ (x : ℕ). get_or ns x 0) (sym h)))
      go o false q = rw (ne_eqb out o (λ h. eqb-false _ _ q (sym h))) (there (is_ready c) (get_or ns o 0))

  -- the code's count, at a number that is an output's in any case
  abbrev at : ℕ
  at = out % most_ports

  pub bump_one : set ns at (get_or ns at 0 + bit (is_counted c)) ≡ bumped ns c
  unfolding is_counted
  bump_one = ⊎_elim (λ x. small (ltb-true _ _ x) x) (λ x. large (ltb-false _ _ x) x) (passes (ltb out most_ports))
    where
      small : out < most_ports → ltb out most_ports ≡ true → set ns at (get_or ns at 0 + bit (is_ready c && ltb out most_ports)) ≡ bumped ns c
      small l x = let q : at ≡ out = omega arith in rw (q, x, and-true (is_ready c)) one_more

      large : most_ports ≤ out → ltb out most_ports ≡ false → set ns at (get_or ns at 0 + bit (is_ready c && ltb out most_ports)) ≡ bumped ns c
      large l x =
          let d = there (is_ready c) (get_or ns at 0) in
          let z : get_or ns at 0 + bit (is_ready c && false) ≡ get_or ns at 0 = omega arith in
          rw (x, z) (set-get_or ns at 0 ∙ no_such_output l)

-- the ready cells of output o below record k, and all outputs' counts of them
abbrev ready_below : List Cell → ℕ → ℕ → ℕ
ready_below cs k o = count (λ j. is_ready_for (output_of o) (nth cs j)) k

unfoldable pub readings_below : List Cell → ℕ → List ℕ
readings_below cs k = tabulate most_ports (ready_below cs k)

module _ (cs : List Cell) where
  at_output : (k o : ℕ) → o < most_ports → get_or (readings_below cs k) o 0 ≡ ready_below cs k o
  unfolding readings_below
  at_output k o l = get_or-tabulate (ready_below cs k) most_ports 0 o l

  length-readings : (k : ℕ) → length (readings_below cs k) ≡ most_ports
  unfolding readings_below
  length-readings k = length-tabulate (ready_below cs k) most_ports

  pub readings-none : replicate most_ports 0 ≡ readings_below cs 0
  unfolding readings_below
  readings-none =
      ext_get_or 0 (replicate most_ports 0) (readings_below cs 0) (sym (length-tabulate (ready_below cs 0) most_ports))
      (λ o l. get_or-replicate most_ports o 0 0 l ∙ sym (at_output 0 o l ∙ count_zero _))

  pub readings_more : (k : ℕ) → bumped (readings_below cs k) (nth cs k) ≡ readings_below cs (k + 1)
  unfolding bumped readings_below
  readings_more k = tabulate-same 0 _ (ready_below cs (k + 1)) most_ports (λ o l. rw (at_output k o l, add-one k) (sym (count_suc _ k)))

  -- a record that is not ready changes no count
  readings_skip : (k : ℕ) → ((nth cs k).place ≡ 2 → ⊥) → readings_below cs k ≡ readings_below cs (k + 1)
  readings_skip k h = not-ready (readings_below cs k) (length-readings k) (nth cs k) h ∙ readings_more k

  pub readings_all : readings_below cs (length cs) ≡ readings cs
  unfolding readings_below readings ready_count
  readings_all = refl

  readings_le : (k o : ℕ) → get_or (readings_below cs k) o 0 ≤ k
  unfolding readings_below
  readings_le k o =
      ⊎_elim
      (λ l. rw (at_output k o (ltb-true o most_ports l)) (count_le _ k))
      (λ l. rw (get_or-eq_default (readings_below cs k) 0 {n = o} (rw (length-readings k) (ltb-false o most_ports l))) (omega arith))
      (passes (ltb o most_ports))

-- a walk over the ready records of these words has come to where P holds of the records below
pub record Passed (P : ℕ → Type 0) (ws : List ℕ) (s : Records) : Type 0 where
  pub words : s.table.now ≡ ws
  pub bits_are : s.bits ≡ ready_bit
  pub below : P (reached s)

pub passed_none : {P : ℕ → Type 0} {ws : List ℕ} {s t : Records} → Starts ws ready_bit s → t ≡ s → P 0 → Passed P ws t
passed_none {P} {ws} {s} h e p = rw e (record { words = h.words; bits_are = h.bits_are; below = rw h.first p })

module _ {P : ℕ → Type 0} {ws : List ℕ} {s : Records} (p : Passed P ws s) where
  next_one : {k : ℕ} {t : Records} → Turn s k t → Next ws ready_bit (reached s) k
  next_one {k} h = subst (λ b. Next ws b (reached s) k) p.bits_are (subst (λ us. Next us s.bits (reached s) k) p.words h.next)

  none_more : Last s.table.now s.bits (reached s) → Last ws ready_bit (reached s)
  none_more h = subst (λ b. Last ws b (reached s)) p.bits_are (subst (λ us. Last us s.bits (reached s)) p.words h)

  pub passed_inside : {k : ℕ} {t : Records} → Turn s k t → k < records ws
  passed_inside h = (next_one h).inside

  -- the next turn, after the state has become one of which Q holds
  pub passed_more : {Q : ℕ → Type 0} {k : ℕ} {t : Records} → Turn s k t → Q (k + 1) → Passed Q ws t
  passed_more h q = record { words = h.words ∙ p.words; bits_are = h.bits_are ∙ p.bits_are; below = rw h.on q }

  -- where P is kept by each record that is not ready, it holds up to the next one that is ready, and to the end behind the last one
  module _ (keeps : (x : ℕ) → x < records ws → Bare ws ready_bit x → P x → P (x + 1)) where
    pub passed_next : {k : ℕ} {t : Records} → Turn s k t → P k
    passed_next h = to_next P keeps (next_one h) p.below

    pub passed_all : Last s.table.now s.bits (reached s) → P (records ws)
    passed_all h = to_last P keeps (none_more h) p.below

-- a pass over the ready records of the table: the counts of those below record k
pub record Counted (ws ns : List ℕ) (k : ℕ) : Type 0 where
  pub are : ns ≡ readings_below (cells_of ws) k

pub counted_keeps : {ws ns : List ℕ} (x : ℕ) → x < records ws → Bare ws ready_bit x → Counted ws ns x → Counted ws ns (x + 1)
counted_keeps {ws} x l h c = record { are = c.are ∙ readings_skip (cells_of ws) x (and_none _ ready_bit (omega arith) h) }

-- no count exceeds the records passed
pub counted_le : {ws ns : List ℕ} {k : ℕ} → Counted ws ns k → (o : ℕ) → get_or ns o 0 ≤ k
counted_le {ws} {ns} {k} c o = rw c.are (readings_le (cells_of ws) k o)

-- Of the ready cells of an output the first by age, found record by record: what was found below record k, or record k
abbrev pub older_ready : List Cell → Output → Option ℕ → ℕ → Option ℕ
older_ready cs o found k = sooner (older_at cs) found (is_ready_for o (nth cs k)) k

-- of those below record k
abbrev pub oldest_below : List Cell → Output → ℕ → Option ℕ
oldest_below cs o k = least (λ i. is_ready_for o (nth cs i)) (older_at cs) k

oldest_skip : (cs : List Cell) (o : Output) (k : ℕ) → ((nth cs k).place ≡ 2 → ⊥) → oldest_below cs o k ≡ oldest_below cs o (k + 1)
unfolding is_ready_for is_ready
oldest_skip cs o k h = sym (least_more _ _ k ∙ sooner_skip _ k (oldest_below cs o k) _ (rw (ne_eqb _ _ h)))

-- and the same pass: what was found below record k
pub record OldestFound (ws : List ℕ) (o : Output) (found : Option ℕ) (k : ℕ) : Type 0 where
  pub is : found ≡ oldest_below (cells_of ws) o k

pub oldest_keeps : {ws : List ℕ} {o : Output} {found : Option ℕ} (x : ℕ) → x < records ws → Bare ws ready_bit x
    → OldestFound ws o found x → OldestFound ws o found (x + 1)
oldest_keeps {ws} {o} x l h c = record { is = c.is ∙ oldest_skip (cells_of ws) o x (and_none _ ready_bit (omega arith) h) }
