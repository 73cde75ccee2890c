use Rattle.std.proofs.Common.{refl, sym, ◌∙◌}
use Rattle.tp_machine_state.proofs.Ties.{tied_row}
use Rattle.tp_machine_state.proofs.Offers.{waits_on}
use Rattle.tp_machine_state.proofs.parts.Parts.return_task.Goals as goal

pub returns-clause-tied : goal.returns-clause-tied
returns-clause-tied g c = λ config n tied.
    let there = sym c.row.ensures ∙ c.in-Some.is in
    tied_row config n c.args.self.now tied c.set_row.new.self c.args.t.0 c.in-Some.row _ there c.set_row.ensures.set (waits_on c.requires.known.0 c.in-Some.row (sym c.requires.known.1 ∙ there) c.requires.known.2) refl refl
