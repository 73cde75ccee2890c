use Rattle.tp_machine_state.proofs.Removals.{tied_same}
use Rattle.tp_machine_state.proofs.parts.Parts.take_done.Goals as goal

pub returns-clause-tied : goal.returns-clause-tied
returns-clause-tied g c = λ config n tied. tied_same config n c.args.self.now tied c.take_done.new.self c.take_done.ensures.rows c.take_done.ensures.promises c.take_done.ensures.numbers c.take_done.ensures.payloads
