-- The lowest port is visited and taken out; where there is none, none is left.
use Rattle.std.proofs.Common.{refl, sym, ◌∙◌}
use Rattle.ports.specs.PortLaws.{visits}
use Rattle.ports.proofs.PortsIterator.next.Goals as goal

pub without-self-requires : goal.without-self-requires
without-self-requires c = let v = visits (sym c.lowest.ensures.lowest ∙ c.in_ok-port.was {u = tt}) refl in (v.lowest.small, v.lowest.inside)

pub returns-clause-steps : goal.returns-clause-steps
returns-clause-steps c = visits (sym c.lowest.ensures.lowest ∙ c.in_ok-port.was {u = tt}) c.without-self.ensures

pub returns-clause-goes : goal.returns-clause-goes
returns-clause-goes c =
    let v = visits (sym c.lowest.ensures.lowest ∙ c.in_ok-port.was {u = tt}) c.without-self.ensures in
    record { on = λ _. (tt, tt, v.less); keeps = tt; rests = λ _. tt }
