use Rattle.std.proofs.Common.{refl, sym, ap, ◌∙◌}
use Rattle.std.specs.Prelude.{is_some, ◌&&◌, not}
use Rattle.tp_machine_state.proofs.Ties.{tied_paid}
use Rattle.tp_machine_state.proofs.parts.Parts.begin_task.Goals as goal

pub returns-clause-tied : goal.returns-clause-tied
returns-clause-tied g c = λ config n tied.
    let k = c.requires.known in
    let p = c.take_payload.ensures in
    let s = c.set_place.ensures.set k.0 (p.row ∙ k.1) in
    tied_paid config n c.args.self.now tied c.set_place.new.self c.args.t.0 k.0 _ k.1 s.row (λ u e. s.others u e ∙ p.others u e) (s.number ∙ p.number) (s.promise ∙ p.promise) refl refl
    (ap (λ o. is_some o) (s.payload ∙ p.gone) ∙ sym (ap (λ b. b && not k.0.cancelled) c.requires.begun))
