-- Where all that was gathered is 0, the places that were read have none of the bits.
use Rattle.std.proofs.Common.{rules, refl, ◌≡◌, ◌+◌, ◌*◌, arith, get_or}
use Rattle.std.proofs.iter.Yields.{nat_range_steps}
use Rattle.std.proofs.lemmas.Iterator.{YieldsList-from_range}
use Rattle.std.proofs.lemmas.Fn.{fold_over}
use Rattle.std.proofs.lemmas.List.FromFn.{get_or-range_with_len}
use Rattle.std.specs.List.{range_with_len}
use Rattle.sift.specs.Stretch.{block, lacks_word, NoneOf, none_of-none, none_of-more}
use Rattle.sift.proofs.stretch.Stretch.any_of_block.Goals as goal

pub returns : goal.returns
returns c =
    let s = c.args.self in
    let k = s.start + c.args.b * block in
    let bits = c.args.bits in
    let none : NoneOf s.table.now k bits (range_with_len 0 block) c.fold.result =
    fold_over nat_range_steps (λ x. x) _ (NoneOf s.table.now k bits) _
    (λ ys a x r f' j i. let more = none_of-more s.table.now k bits ys j x in search rules)
    (record { start = 0; end = block }) (range_with_len 0 block) _ _ (YieldsList-from_range 0 block block refl refl).runs
    (none_of-none s.table.now k bits) c.fold.ensures.ran in
    λ e j l.
    let q : get_or (range_with_len 0 block) j 0 ≡ j = omega (arith, get_or-range_with_len 0 block j 0 l) in
    let at : k + j ≡ s.start + (c.args.b * block + j) = omega arith in
    lacks_word s.table.now s.start _ (c.args.b * block + j) (omega (arith, s.is_stretch.inside)) (rw (q, at) at (none e j l))
