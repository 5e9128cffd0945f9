-- What an accepted slot leaves, from what the inhale, the transfers and the exhale leave; and that two outcomes of one input are equal.
-- Assumes nothing.
use Rattle.std.specs.Prelude.{◌≡◌, ℕ, ◌/◌, length}
use Rattle.std.proofs.Common.{sym, ◌∙◌, arith}
use Rattle.std.proofs.Math.Path.{ap, ap₂}
use mathlib.Core.List.{List}
use Rattle.rules.specs.declared.Cell.{Cell}
use Rattle.rules.specs.declared.Switch.{Switch}
use Rattle.rules.specs.Cells.{width, records, cells_of}
use Rattle.rules.specs.Phases.{inhale, readings, phases, exhale}
use Rattle.rules.specs.Phases.{exhaled as exhaled_of}
use Rattle.rules.specs.Phases.{matches as matches_of}
use Rattle.rules.specs.Answers.{Lists}
use Rattle.rules.specs.Calls.{Started, fresh_start, Outcome, entered, transferred, slot_runs, slot}
use Rattle.words.specs.Words.{length-cells_of, with_records}
use Rattle.words.proofs.Words.{with_whole, with_long, with_cells, with_then}
use Rattle.ideal.specs.Phases.{length-phases}
use Rattle.ideal.specs.Exhale.{length-exhale}
use Rattle.ideal.specs.Calls.{Accepted}
use Rattle.ideal.proofs.Calls.{entered-fit}
use Rattle.ideal.specs.InPorts.{in_ports_fit}
use Rattle.matching.specs.Ready.{Orderly}
use Rattle.buffers.specs.Inhale.{length-inhale}

-- the table and the two lists that an accepted slot leaves
pub record SlotRan (w : Switch) (table arrivals table' matches exhaled : List ℕ) : Type 0 where
  pub cells : table' ≡ (slot_runs w table arrivals).table
  pub matched : matches ≡ (slot_runs w table arrivals).matches
  pub emitted : exhaled ≡ (slot_runs w table arrivals).exhaled

module _ {w : Switch} {table : List ℕ} {l : Lists} (a : Accepted w table l) where
  abbrev arrivals : List ℕ
  arrivals = l.arrivals

  -- the records at the end of the inhale, as many as before
  abbrev full : List Cell
  full = inhale w.ports w.next arrivals (cells_of table)

  full_many : length full ≡ length (cells_of table)
  full_many = length-inhale w.next arrivals w.ports (cells_of table)

  -- the table after the inhale is within bounds and has its ports in order
  pub entered_orderly : (table1 : List ℕ) → table1 ≡ with_records table full → Orderly w.ports table1
  unfolding entered records
  entered_orderly table1 e = record {
    small = a.sizes.ports.1;
    few = omega (arith, a.sizes.size.1, ap (λ (n : ℕ). n / width) (with_long table full e full_many));
    inside = rw (with_cells table full e full_many) (in_ports_fit (entered-fit a));
  }

  pub runs : (t1 t2 t3 m e r : List ℕ) → t1 ≡ with_records table full → r ≡ readings (cells_of t1)
      → t2 ≡ with_records t1 (phases w.ports r (cells_of t1) w.speedup) → m ≡ matches_of w.ports r (cells_of t1) w.speedup
      → t3 ≡ with_records t2 (exhale w.ports (cells_of t2)) → e ≡ exhaled_of w.ports (cells_of t2) → SlotRan w table arrivals t3 m e
  unfolding slot_runs entered transferred
  runs t1 t2 t3 m e r h1 hr h2 hm h3 he =
      record {
        cells = settled ∙ with_whole table final (final_many ∙ length-cells_of table) a.sizes.whole;
        matched = hm ∙ ap₂ (λ (q : List ℕ) (cs : List Cell). matches_of w.ports q cs w.speedup) (hr ∙ ap readings c1) c1;
        emitted = he ∙ ap (exhaled_of w.ports) last;
      }
    where
      c1 : cells_of t1 ≡ full
      c1 = with_cells table full h1 full_many

      many : length (phases w.ports r (cells_of t1) w.speedup) ≡ length (cells_of t1)
      many = length-phases w.ports r (cells_of t1) w.speedup

      -- the records at the end, and that no other word of the table changed on the way
      final : List Cell
      final = exhale w.ports (phases w.ports (readings full) full w.speedup)

      last : cells_of t2 ≡ phases w.ports (readings full) full w.speedup
      last = with_cells t1 _ h2 many ∙ ap₂ (λ (q : List ℕ) (cs : List Cell). phases w.ports q cs w.speedup) (hr ∙ ap readings c1) c1

      final_many : length final ≡ length (cells_of table)
      final_many = length-exhale w.ports _ ∙ length-phases w.ports (readings full) full w.speedup ∙ full_many

      settled : t3 ≡ with_records table final
      settled =
          with_then table full h1 full_many final
          (with_then t1 _ h2 many final (h3 ∙ ap (λ (cs : List Cell). with_records t2 (exhale w.ports cs)) last)
          (final_many ∙ sym (many ∙ ap length c1 ∙ full_many)))
          (final_many ∙ sym full_many)

-- What an answer settles: any two outcomes that the contracts allow for one input are equal --------------

pub fresh_start_settled : (w : Switch) (table : List ℕ) (x y : Started) → x ≡ fresh_start w table → y ≡ fresh_start w table → x ≡ y
fresh_start_settled w table x y p q = p ∙ sym q

pub slot_settled : (w : Switch) (table : List ℕ) (l : Lists) (x y : Outcome) → x ≡ slot w table l → y ≡ slot w table l → x ≡ y
slot_settled w table l x y p q = p ∙ sym q
