use Rattle.tp_protocols.proofs.Fronts.{front-goes-on, front-ends, path-is-front}
use Rattle.tp_protocols.proofs.laws.law_fronts_are_paths.Goals as goal

pub returns-clause-goes_on : goal.returns-clause-goes_on
returns-clause-goes_on c = front-goes-on

pub returns-clause-ends : goal.returns-clause-ends
returns-clause-ends c = front-ends

pub returns-clause-whole : goal.returns-clause-whole
returns-clause-whole c = path-is-front
