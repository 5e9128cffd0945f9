-- No more are listed than were looked at; a record stays by its place.
use Rattle.std.proofs.Common.{rules, arith}
use Rattle.rules.specs.Cells.{records}
use Rattle.sift.specs.Stretch.{listed_sifted, listed_on}
use Rattle.sift.proofs.stretch.Stretch.list_between.Goals as goal

pub list_from-requires : goal.list_from-requires
unfolding records
list_from-requires c =
    let few = (listed_sifted c.requires.listed).few in
    let short = c.args.self.is_stretch in
    search rules

pub returns : goal.returns
returns c = listed_on c.requires.listed c.list_from.ensures (omega (arith, c.args.self.is_stretch)) (λ x a b r g. search rules)
