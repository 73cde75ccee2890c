use Rattle.std.proofs.Common.{◌≡◌, Bool, true, false, refl, sym, ap, ◌∙◌}
use Rattle.std.specs.Prelude.{is_some, ◌&&◌}
use Rattle.tp_machine_state.proofs.Ties.{tied_paid}
use Rattle.tp_machine_state.proofs.parts.Parts.cancel_task.Goals as goal

off : (b : Bool) → false ≡ (b && false)
off true = refl
off false = refl

-- a cancelled task does not wait, and its payload is out
pub returns-clause-tied : goal.returns-clause-tied
returns-clause-tied g c = λ config n tied.
    let there = sym c.row.ensures ∙ c.in-Some.is in
    let p = c.take_payload-payload.ensures in
    let s = c.cancel.ensures.set in
    tied_paid config n c.args.self.now tied c.cancel.new.self c.args.t.0 c.in-Some.row _ there s.row (λ u e. s.others u e ∙ p.others u e) (s.number ∙ p.number) (s.promise ∙ p.promise) refl refl
    (ap (λ o. is_some o) (s.payload ∙ p.gone) ∙ off _)
