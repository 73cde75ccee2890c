use Rattle.std.proofs.Common.{refl}
use Rattle.tp_machine_state.proofs.Ties.{tied_row}
use Rattle.tp_machine_state.proofs.Offers.{waits_on}
use Rattle.tp_machine_state.proofs.parts.Parts.hand_task.Goals as goal

pub returns-clause-tied : goal.returns-clause-tied
returns-clause-tied g c = λ config n tied.
    let k = c.requires.known in
    tied_row config n c.args.self.now tied c.hand.new.self c.args.t.0 k.0 _ k.1 (c.hand.ensures.set k.0 k.1) (waits_on k.0 k.0 refl k.2) refl refl
