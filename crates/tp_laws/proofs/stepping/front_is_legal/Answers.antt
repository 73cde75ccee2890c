use Rattle.tp_laws.proofs.Model.Readings as readings
use Rattle.tp_laws.proofs.stepping.front_is_legal.Goals as goal

pub returns-clause-one : goal.returns-clause-one
returns-clause-one c = readings.legal_front

pub returns-clause-any : goal.returns-clause-any
returns-clause-any c = readings.legal_tail
