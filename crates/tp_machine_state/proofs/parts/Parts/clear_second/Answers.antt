use Rattle.std.proofs.Common.{refl}
use Rattle.tp_machine_state.proofs.Ties.{tied_row}
use Rattle.tp_machine_state.proofs.parts.Parts.clear_second.Goals as goal

pub returns-clause-tied : goal.returns-clause-tied
returns-clause-tied g c = λ config n tied.
    let k = c.requires.known in
    tied_row config n c.args.self.now tied c.clear_second.new.self c.args.t.0 k.0 _ k.1 (c.clear_second.ensures.set k.0 k.1) refl refl refl
