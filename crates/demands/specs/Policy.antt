-- A policy of phases: which records a phase picks, a key by which the ready cells for an output are told apart, and what a waiting cell weighs in the
-- invariant. The invariant's proof uses these laws of a policy and no others.
-- By age is the policy of the rules. Document 02's L1, busy outputs, has `busy` here already; with its match's `waits` and `advances` it is a policy.
-- Assumes nothing.
use Rattle.std.specs.Prelude.{◌≡◌, ◌⊎◌, Bool, List, ℕ, ◌≤◌, ◌<◌, length}
use Rattle.std.proofs.Common.{inl, inr, ⊎_elim, arith}
use Rattle.std.proofs.Math.Bool.{So}
use Rattle.laws.specs.Tests.{No}
use Rattle.rules.specs.declared.Slot.{Slot}
use Rattle.rules.specs.declared.Cell.{Cell}
use Rattle.rules.specs.Cells.{most_ports, nth, before}
use Rattle.rules.specs.Phases.{match_of}
use Rattle.rules.specs.Model.{Match}
use Rattle.ideal.specs.Cells.{waiting→, →waiting, conflict→, by_output}
use Rattle.ideal.specs.Fit.{Fit}
use Rattle.ideal.specs.Match.{match_is}
use Rattle.ideal.specs.Phases.{Picks, match_picks}
use Rattle.demands.specs.Ages.{age, aged, older→, before-older}

-- a waiting cell weighs v: where keys differ at all, v is 2; and no key is above that of a later cell
pub record Weighs (key : Cell → ℕ) (v : ℕ) : Type 0 where
  pub one : 1 ≤ v
  pub two : (c d : Cell) → key c < key d → 2 ≤ v
  pub later : (c d : Cell) → age c ≤ age d → key c ≤ key d

-- the records of m, picked by the reading r: no two are for one output; and a waiting one that is left has a picked one at its input that stands
-- before it, or a picked one for its output with no higher key
pub record Advances (key : Cell → ℕ) (r : List ℕ) (cs : List Cell) (m : ℕ → Bool) : Type 0 where
  pub outputs : (j k : ℕ) → j < length cs → k < length cs → So (m j) → So (m k) → (nth cs j).output.0 ≡ (nth cs k).output.0 → j ≡ k
  pub blocked : (k : ℕ) → k < length cs → (nth cs k).place ≡ 1 → No (m k) → (d : ℕ) × (d < length cs) × So (m d)
      × ((((nth cs d).input.0 ≡ (nth cs k).input.0) × So (before r (nth cs d) (nth cs k)))
      ⊎ (((nth cs d).output.0 ≡ (nth cs k).output.0) × (key (nth cs d) ≤ key (nth cs k))))

pub record Policy : Type 0 where
  pub key : Cell → ℕ
  pub weight : ℕ
  pub weighs : Weighs key weight
  -- for n ports, a reading and a table
  pub pick : ℕ → List ℕ → List Cell → ℕ → Bool
  pub waits : (n : ℕ) (r : List ℕ) (cs : List Cell) → Picks cs (pick n r cs)
  pub advances : {n : ℕ} {t : Slot} {cs : List Cell} → Fit n t cs → n ≤ most_ports → (r : List ℕ) → Advances key r cs (pick n r cs)

-- By age -----------------------------------------------------------------------------------------

pub match_advances : {n : ℕ} {t : Slot} {cs : List Cell} {r : List ℕ} {m : ℕ → Bool} → Fit n t cs → n ≤ most_ports → Match r cs m → Advances age r cs m
match_advances {cs = cs} {r} f ports a = record {
  outputs = λ j k hj hk x y e. a.apart j k hj hk x y (by_output (nth cs j) (nth cs k) e);
  blocked = λ k l w x.
      let d = a.beaten k l (→waiting _ w) x in
      let v = waiting→ _ (a.waits d.0 d.1 d.2) in
      let id = aged ports (f.each d.0 d.1) (omega arith) in
      let ik = aged ports (f.each k l) (omega arith) in (
        d.0,
        d.1,
        d.2,
        ⊎_elim (λ e. inl (e, d.4)) (λ e. inr (e, omega (arith, older→ _ _ id ik (before-older r _ _ e d.4)))) (conflict→ (nth cs d.0) (nth cs k) d.3),
      );
}

abbrev pub by_age : Policy
by_age = record {
  key = age;
  weight = 2;
  weighs = record { one = omega arith; two = λ c d h. omega arith; later = λ c d h. h };
  pick = match_of;
  waits = match_picks;
  advances = λ f ports r. match_advances f ports (match_is f r);
}

-- Busy outputs: keys do not differ ---------------------------------------------------------------

pub busy : Weighs (λ c. 0) 1
busy = record { one = omega arith; two = λ c d h. omega arith; later = λ c d h. omega arith }
