use Rattle.tp_laws.proofs.Model.Functions as functions
use Rattle.tp_laws.proofs.stepping.refusal_needs_no_number.Goals as goal

pub returns : goal.returns
returns c = functions.refused_legal
