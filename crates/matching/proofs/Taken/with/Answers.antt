use Rattle.ports.specs.PortLaws.{added}
use Rattle.matching.proofs.Taken.with.Goals as goal

pub returns-clause-inputs : goal.returns-clause-inputs
returns-clause-inputs c = added c.with.ensures

pub returns-clause-outputs : goal.returns-clause-outputs
returns-clause-outputs c = added c.with-2.ensures
