use Rattle.tp_laws.proofs.Model.Functions as functions
use Rattle.tp_laws.proofs.stepping.step_is_a_function.Goals as goal

pub returns-clause-slot : goal.returns-clause-slot
returns-clause-slot c = functions.same_slot

pub returns-clause-one : goal.returns-clause-one
returns-clause-one c = functions.same_answer
