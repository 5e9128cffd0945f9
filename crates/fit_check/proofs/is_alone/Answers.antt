-- Record k differs from each record below it in slot or input.
use Rattle.std.proofs.Common.{rules, refl, ◌≡◌, ◌<◌, ℕ, Bool, true, false, not, length, get_or, sym, ap, arith}
use Rattle.std.specs.Bool.{MatchBool}
use Rattle.std.specs.List.{AllWithin, HoldsAt, range_with_len}
use Rattle.std.proofs.Math.Bool.{So}
use Rattle.std.proofs.lemmas.Iterator.{cases_from_any, YieldsList-from_range}
use Rattle.std.proofs.lemmas.List.FromFn.{length-range_with_len, get_or-range_with_len}
use Rattle.laws.specs.Tests.{No, deny}
use Rattle.laws.specs.Count.{every, →every, every_broken}
use Rattle.rules.specs.Cells.{nth, cells_of, same_entry, is_alone}
use Rattle.fit_check.proofs.is_alone.Goals as goal

-- none of the numbers below k passes the test, or one does
settled : (p : ℕ → Bool) (k : ℕ) (r : Bool) → MatchBool r ((i : ℕ) × (i < length (range_with_len 0 k)) × HoldsAt (λ j. So (p j)) (range_with_len 0 k) i)
    (AllWithin (λ j. No (p j)) (range_with_len 0 k) 0 (length (range_with_len 0 k))) → not r ≡ every (λ j. not (p j)) k
settled p k true h =
    let l : h.0 < k = omega (arith, h.1, length-range_with_len 0 k) in
    let e : get_or (range_with_len 0 k) h.0 0 ≡ h.0 = omega (arith, get_or-range_with_len 0 k h.0 0 l) in
    sym (every_broken _ h.0 k l (ap not (rw e at (h.2 0))))
settled p k false h =
    sym (→every _ k (λ j l.
    let e : get_or (range_with_len 0 k) j 0 ≡ j = omega (arith, get_or-range_with_len 0 k j 0 l) in
    deny _ (rw e at (h j 0 (omega arith) (omega (arith, l, length-range_with_len 0 k))))))

pub returns : goal.returns
unfolding is_alone
returns c =
    let same = same_entry (nth (cells_of c.args.table.now) c.args.k) in
    let p : ℕ → Bool = λ j. same (nth (cells_of c.args.table.now) j) in
    settled p _ _
    (cases_from_any _ _ c.any.result (λ j. So (p j)) (λ j. No (p j)) c.any.ensures.ran (YieldsList-from_range 0 c.args.k c.args.k refl (omega arith)) (λ x q d. search rules) (λ x q d. search rules))
