use Rattle.std.proofs.Common.{◌≡◌, Some, refl, sym, ap, ◌∙◌}
use Rattle.std.specs.Prelude.{◌&&◌, not}
use Rattle.tp_machine_state.proofs.Ties.{tied_row}
use Rattle.tp_machine_state.specs.Tied.{is_before}
use Rattle.tp_machine_state.proofs.parts.Parts.retry_task.Goals as goal

pub returns-clause-tied : goal.returns-clause-tied
returns-clause-tied g c = λ config n tied.
    let there = sym c.row.ensures ∙ c.in-Some.is in
    let same : Some c.requires.known.0 ≡ Some c.in-Some.row = sym c.requires.known.1 ∙ there in
    let row : c.requires.known.0 ≡ c.in-Some.row = cc in
    tied_row config n c.args.self.now tied c.set_row.new.self c.args.t.0 c.in-Some.row _ there c.set_row.ensures.set
    (ap (λ b. b && not c.in-Some.row.cancelled) (sym (ap (λ r. is_before r.place) (sym row) ∙ c.requires.known.2))) refl refl
