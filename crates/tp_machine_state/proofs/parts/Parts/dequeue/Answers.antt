use Rattle.tp_machine_state.proofs.Queued.{tied_less}
use Rattle.tp_machine_state.proofs.Ties.{contains_drop}
use Rattle.tp_machine_state.proofs.parts.Parts.dequeue.Goals as goal

pub returns-clause-tied : goal.returns-clause-tied
returns-clause-tied g c = λ config n tied. tied_less config n c.args.self.now tied c.take_head.new.self _ c.take_head.ensures.rest (contains_drop _)
