use Rattle.tp_laws.proofs.Model.NextState as laws
use Rattle.tp_laws.proofs.stepping.next_is_state.Goals as goal

pub returns : goal.returns
returns c = laws.next_is_state
