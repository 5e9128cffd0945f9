-- The walk over the records: those below the next one are sound and alone, and marked if they are live. It is the same whatever a record must meet
-- by itself, as long as of a free one that is to be blank.
-- Assumes nothing.
use Rattle.std.specs.Prelude.{ℕ, ◌+◌, ◌-◌, ◌*◌, ◌≤◌, ◌<◌, ◌≡◌, refl, Bool, true, false, ◌&&◌, List, length, get_or}
use Rattle.std.proofs.Common.{sym, ap, ◌∙◌, arith, eq-eqb}
use Rattle.std.proofs.Math.Bool.{So}
use Rattle.std.proofs.lemmas.Bool.{false≢true}
use Rattle.std.specs.Int.Bits.{bit_and}
use Rattle.std.proofs.lemmas.Nat.{and_mask}
use Rattle.laws.specs.Tests.{No, join, fails_left, fails_right}
use Rattle.laws.specs.Count.{every, every-none, every_more, every_broken}
use Rattle.rules.specs.declared.Cell.{Cell}
use Rattle.rules.specs.Cells.{free, nth, is_free, is_blank, is_alone, width, records, cells_of}
use Rattle.words.specs.Words.{length-cells_of, nth-cells_of}
use Rattle.words.specs.Behind.{free-blank}
use Rattle.ports.specs.declared.PortSet.{PortSet}
use Rattle.sift.specs.Stretch.{live_bits, Listed}
use Rattle.fit_check.specs.Sound.{stray_free, stray_not-blank, no_stray, Strays}
use Rattle.fit_check.specs.Marks.{Seen, seen_none, Told, free_alone, seen_free}

-- record k by itself and against those below it
abbrev passing : (Cell → Bool) → List Cell → ℕ → Bool
passing sound cs k = sound (nth cs k) && is_alone cs k

-- `fit` of the rules, whatever a record must meet by itself
abbrev pub fit_by : (Cell → Bool) → List Cell → Bool
fit_by sound cs = every (passing sound cs) (length cs)

-- what holds of the records below k
pub record FitSoFar (sound : Cell → Bool) (cs : List Cell) (ms : List PortSet) (k : ℕ) : Type 0 where
  pub good : So (every (passing sound cs) k)
  pub seen : Seen ms cs k

-- what is told of the records below k, where that held of some of them
pub record FitTo (sound : Cell → Bool) (cs : List Cell) (ms : List PortSet) (k : ℕ) (r : Bool) : Type 0 where
  pub fits : So r → FitSoFar sound cs ms k
  pub fails : No r → No (fit_by sound cs)

module _ (sound : Cell → Bool) (cs : List Cell) (ms : List PortSet) where
  pub fit_none : FitSoFar sound cs ms 0
  fit_none = record { good = every-none (passing sound cs); seen = seen_none ms cs }

  pub fit_told : {k : ℕ} → FitSoFar sound cs ms k → FitTo sound cs ms k true
  fit_told p = record { fits = λ h. p; fails = λ h. absurd (false≢true (sym h)) }

  pub fit_fails : {vs : List PortSet} {j k : ℕ} {r : Bool} → FitTo sound cs vs j r → No r → FitTo sound cs ms k false
  fit_fails t h = record { fits = λ q. absurd (false≢true q); fails = λ q. t.fails h }

  -- one record that is not sound, and the table is not fit
  pub unsound : (k x : ℕ) → x < length cs → No (sound (nth cs x)) → FitTo sound cs ms k false
  unsound k x l q = record {
    fits = λ h. absurd (false≢true h);
    fails = λ h. every_broken (passing sound cs) x (length cs) l (fails_left (sound (nth cs x)) (is_alone cs x) q);
  }

  -- record k is sound, and whether it is alone is told
  pub fit_more : {vs : List PortSet} {k : ℕ} {r : Bool} → FitSoFar sound cs vs k → k < length cs → So (sound (nth cs k)) → Told cs k r ms
      → FitTo sound cs ms (k + 1) r
  fit_more {k = k} p l s t =
      record {
        fits = λ h. record { good = every_more (passing sound cs) k p.good (join _ _ s (sym t.alone ∙ h)); seen = t.seen };
        fails = λ h. every_broken (passing sound cs) k (length cs) l (fails_right (sound (nth cs k)) (is_alone cs k) (sym t.alone ∙ h));
      }

-- The walk over a stretch --------------------------------------------------------------------------

-- what a first look at the stretch from record k to record `end` gives
pub record Surveyed (ws : List ℕ) (k end : ℕ) (list : List ℕ) (m r : ℕ) : Type 0 where
  pub listed : Listed ws k (end - k) live_bits list m
  pub strays : Strays (cells_of ws) k end r

-- what holds of the records below x, where x is in the stretch
pub record FitWithin (sound : Cell → Bool) (cs : List Cell) (k end : ℕ) (ms : List PortSet) (x : ℕ) : Type 0 where
  pub from : k ≤ x
  pub below : x ≤ end → FitSoFar sound cs ms x

module _ {sound : Cell → Bool} {cs : List Cell} {k end : ℕ} {ms : List PortSet} where
  pub fit_begins : FitSoFar sound cs ms k → FitWithin sound cs k end ms k
  fit_begins p = record { from = omega arith; below = λ l. p }

  pub fit_goes_on : {x : ℕ} → k ≤ x → FitSoFar sound cs ms x → FitWithin sound cs k end ms x
  fit_goes_on l p = record { from = l; below = λ h. p }

-- of a free record it is asked that it is blank
module _ (sound : Cell → Bool) (of-free : (c : Cell) → So (is_free c) → sound c ≡ is_blank c) (ws : List ℕ) where
  -- a stray, and the table is not fit
  pub stray_unfit : (ms : List PortSet) (k : ℕ) {a b r : ℕ} → Strays (cells_of ws) a b r → b ≤ records ws → (r ≡ 0 → ⊥) → FitTo sound (cells_of ws) ms k false
  stray_unfit ms k s l h =
      let x = s.some h in
      unsound sound (cells_of ws) ms k x.0 (rw (length-cells_of ws) (omega (arith, x.1)))
      (of-free (nth (cells_of ws) x.0) (stray_free _ x.2) ∙ stray_not-blank _ x.2)

  -- no stray, and a record that is not listed is free
  module _ {k end r : ℕ} (s : Strays (cells_of ws) k end r) (z : r ≡ 0) (small : (i : ℕ) → get_or ws i 0 ≤ live_bits) (ms : List PortSet) where
    no_place : (x : ℕ) → x < records ws → bit_and (nth (cells_of ws) x).place live_bits ≡ 0 → (nth (cells_of ws) x).place ≡ 0
    no_place x l e =
        let q : (nth (cells_of ws) x).place ≡ get_or ws (x * width) 0 = ap (λ (c : Cell). c.place) (nth-cells_of ws x l) in
        omega (arith, q, small (x * width), sym (and_mask (nth (cells_of ws) x).place 32) ∙ e)

    free_meets : So (sound free)
    unfolding is_free
    free_meets = of-free free (eq-eqb 0 0 refl) ∙ free-blank

    free_more : (x : ℕ) → nth (cells_of ws) x ≡ free → FitSoFar sound (cells_of ws) ms x → FitSoFar sound (cells_of ws) ms (x + 1)
    free_more x q p = record {
      good = every_more _ x p.good (join _ _ (ap sound q ∙ free_meets) (free_alone (cells_of ws) x q));
      seen = seen_free (cells_of ws) x q p.seen;
    }

    pub fit_keeps : (x : ℕ) → x < records ws → bit_and (nth (cells_of ws) x).place live_bits ≡ 0
        → FitWithin sound (cells_of ws) k end ms x → FitWithin sound (cells_of ws) k end ms (x + 1)
    fit_keeps x l e p = record {
      from = omega (arith, p.from);
      below = λ h. free_more x (no_stray _ (s.none z x p.from (omega arith)) (no_place x l e)) (p.below (omega arith));
    }
