-- The strays of the records that were looked at, one after another.
use Rattle.std.proofs.Common.{rules, refl, ◌-◌, arith}
use Rattle.std.proofs.iter.Yields.{nat_range_steps}
use Rattle.std.proofs.lemmas.Iterator.{YieldsList-from_range}
use Rattle.std.proofs.lemmas.Fn.{fold_over}
use Rattle.std.specs.List.{range_with_len}
use Rattle.rules.specs.Cells.{cells_of}
use Rattle.fit_check.specs.Sound.{StraysOf, strays_of-none, strays_of-more, strays_of-range}
use Rattle.fit_check.proofs.strays_among.Goals as goal

pub returns : goal.returns
returns c =
    let cs = cells_of c.args.table.now in
    let from = c.args.from in
    strays_of-range cs from c.args.to (omega arith)
    (fold_over nat_range_steps (λ x. x) _ (StraysOf cs from) _ (λ ys a x b f' j k. let more = strays_of-more cs from ys j x in search rules)
    (record { start = from; end = c.args.to }) (range_with_len from (c.args.to - from)) _ _
    (YieldsList-from_range from c.args.to _ refl refl).runs (strays_of-none cs from) c.fold.ensures.ran)
