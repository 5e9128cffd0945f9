-- The number that was asked about is written behind those listed, and stays or does not.
use Rattle.std.proofs.Common.{rules, ◌∙◌, arith, length-set}
use Rattle.sift.specs.Lists.{lists_none, lists_more, by_bool}
use Rattle.sift.proofs.numbers.Numbers.list_from.Goals as goal

pub loop-x-init : goal.loop-x-init
loop-x-init g c = record { long = search rules; lists = lists_none _ _ _ }

pub loop-x-preserved : goal.loop-x-preserved
loop-x-preserved g c =
    let i = c.loop-x in
    record {
      long = length-set i.self.list i.count i.x ∙ i.invariant.long;
      lists = rw (c.from-count.ensures, by_bool) (lists_more i.invariant.lists c.stays.result c.stays.ensures (omega arith) (omega (arith, i.invariant.lists.few c.requires.room)));
    }
