-- One arrival, and where the next one may look for room.
-- Assumes nothing.
use Rattle.std.specs.Prelude.{ℕ, ◌+◌, ◌<◌, ◌≡◌, List, ltb, set, Some, None}
use Rattle.std.proofs.Math.Path.{refl, ap}
use Rattle.std.proofs.Common.{sym, ◌∙◌, arith, get_or-set_same, get_or-set_other, eq-eqb, ne_eqb, lt-ltb}
use Rattle.std.proofs.Math.Logic.{⊎_elim}
use Rattle.std.proofs.Math.Numerals.{add-one}
use Rattle.std.proofs.Math.ListN.{length}
use Rattle.laws.specs.Tests.{No, passes, refuted, to_no}
use Rattle.laws.specs.Walk.{over_zero, over_more, over_ind, below_suc}
use Rattle.laws.specs.Least.{Least}
use Rattle.laws.proofs.Least.{lowest_is}
use Rattle.rules.specs.declared.Cell.{Cell}
use Rattle.rules.specs.declared.Input.{Input}
use Rattle.rules.specs.declared.Slot.{Slot}
use Rattle.rules.specs.Cells.{input_of, free, nth, is_free, records, cells_of}
use Rattle.rules.specs.Answers.{first_word, arrives}
use Rattle.rules.specs.Phases.{lowest_free, arrival, enter, inhale}
use Rattle.words.specs.Words.{length-cells_of, with_records}
use Rattle.words.proofs.Words.{with_own, with_long, with_cells, with_then}
use Rattle.table.specs.Table.{stored, records-stored, cells_of-stored, NoneBelow, none_below_zero}
use Rattle.buffers.specs.Stores.{length-store_at}

-- the words ws become vs by the arrival at input i, and below `next` no record of them is free
pub record Entered (t : Slot) (arrivals : List ℕ) (i : Input) (ws vs : List ℕ) (next : ℕ) : Type 0 where
  pub words : vs ≡ with_records ws (enter t arrivals i.0 (cells_of ws))
  pub below : NoneBelow vs next

-- the lowest free record is k
module _ (ws : List ℕ) (k : ℕ) (f : lowest_free (cells_of ws) ≡ Some k) where
  lowest-at : Least (λ j. is_free (nth (cells_of ws) j)) ltb (length (cells_of ws)) (Some k)
  unfolding lowest_free
  lowest-at = rw f at (lowest_is (λ j. is_free (nth (cells_of ws) j)) (length (cells_of ws)))

  pub room_inside : k < records ws
  room_inside = rw (length-cells_of ws) at lowest-at.0

module _ (t : Slot) (arrivals : List ℕ) (i : Input) (ws : List ℕ) where
  -- no cell arrives
  pub none-arrives : {from : ℕ} → NoneBelow ws from → first_word arrivals i.0 ≡ 0 → Entered t arrivals i ws ws from
  unfolding enter arrives
  none-arrives b e = record { words = rw (eq-eqb _ _ e) (sym (with_own ws)); below = b }

  -- there is no room
  pub no_room : {from : ℕ} → NoneBelow ws from → (first_word arrivals i.0 ≡ 0 → ⊥) → lowest_free (cells_of ws) ≡ None → Entered t arrivals i ws ws from
  unfolding enter arrives
  no_room b e f = record { words = rw (ne_eqb _ _ e, f) (sym (with_own ws)); below = b }

  -- the cell takes the lowest free record, k
  module _ (k : ℕ) (f : lowest_free (cells_of ws) ≡ Some k) where
    -- the cell that arrives, and the records with it
    abbrev c : Cell
    c = arrival t arrivals i.0

    abbrev taken : List Cell
    taken = set (cells_of ws) k c

    waits : No (is_free c)
    unfolding is_free
    waits = refl

    -- below the record that the cell takes, and there, none is free afterwards
    others : (j : ℕ) → j < k → No (is_free (nth taken j))
    others j l =
        rw (get_or-set_other (cells_of ws) k j c free (omega arith))
        (to_no (λ x. refuted (lt-ltb j k l) ((lowest-at ws k f).2 j (omega (arith, (lowest-at ws k f).0)) x)))

    here : No (is_free (nth taken k))
    here = rw (get_or-set_same (cells_of ws) k c free (lowest-at ws k f).0) waits

    pub takes_room : (vs : List ℕ) → (first_word arrivals i.0 ≡ 0 → ⊥) → vs ≡ stored ws k c → Entered t arrivals i ws vs (k + 1)
    unfolding enter arrives
    takes_room vs e s = record {
      words = rw (ne_eqb _ _ e, f) s;
      below = record {
        inside = omega (arith, room_inside ws k f, ap records s, records-stored ws k c);
        none = rw (ap cells_of s ∙ cells_of-stored ws k c, add-one k) (below_suc (λ j. No (is_free (nth taken j))) k others here);
      };
    }

-- By rising input ------------------------------------------------------------------------------------

module _ (t : Slot) (arrivals : List ℕ) where
  length-enter : (i : ℕ) (cs : List Cell) → length (enter t arrivals i cs) ≡ length cs
  unfolding enter
  length-enter i cs = ⊎_elim (λ h. rw h (length-store_at (lowest_free cs) _ cs)) (λ h. rw h) (passes (arrives arrivals i))

  pub length-inhale : (n : ℕ) (cs : List Cell) → length (inhale n t arrivals cs) ≡ length cs
  unfolding inhale
  length-inhale n cs = over_ind _ cs (λ k us. length us ≡ length cs) refl n (λ k l us h. length-enter k us ∙ h)

-- the words ws become vs by the arrivals at the inputs below i, and below `from` no record of them is free
pub record Inhaling (t : Slot) (arrivals ws : List ℕ) (i : ℕ) (vs : List ℕ) (from : ℕ) : Type 0 where
  pub words : vs ≡ with_records ws (inhale i t arrivals (cells_of ws))
  pub below : NoneBelow vs from

pub inhaling_none : (t : Slot) (arrivals ws : List ℕ) → Inhaling t arrivals ws 0 ws 0
unfolding inhale
inhaling_none t arrivals ws = record { words = sym (ap (with_records ws) (over_zero _ _) ∙ with_own ws); below = none_below_zero ws }

pub inhaling_long : {t : Slot} {arrivals ws vs : List ℕ} {i from : ℕ} → Inhaling t arrivals ws i vs from → length vs ≡ length ws
inhaling_long {t} {arrivals} {ws} {i = i} x = with_long ws _ x.words (length-inhale t arrivals i (cells_of ws))

pub inhaling_more : {t : Slot} {arrivals ws vs us : List ℕ} {i from next : ℕ} → Inhaling t arrivals ws i vs from → Entered t arrivals (input_of i) vs us next
    → Inhaling t arrivals ws (i + 1) us next
unfolding inhale
inhaling_more {t} {arrivals} {ws} {vs} {us} {i} x e =
    let cs : List Cell = inhale i t arrivals (cells_of ws) in
    let l : length cs ≡ length (cells_of ws) = length-inhale t arrivals i (cells_of ws) in
    let w : us ≡ with_records vs (enter t arrivals i cs) = rw (with_cells ws cs x.words l) at e.words in
    record {
      words = with_then ws cs x.words l (enter t arrivals i cs) w (length-enter t arrivals i cs) ∙ ap (with_records ws) (sym (over_more _ _ i));
      below = e.below;
    }
