use Rattle.std.proofs.Common.{◌∙◌, None, ap, map, sym, subst, append-nil}
use Rattle.tp_machine.specs.Stepped.{FitsOutcome}
use Rattle.tp_scenario.specs.Answered.{IsAt, Running, notes}
use Rattle.tp_machine.proofs.Making.{not_torn}
use Rattle.tp_scenario.proofs.StepLaws.{accepted, denied, none_back}
use Rattle.tp_scenario.proofs.step.Runner.make.Goals.{in-Ok, in-Err}
use Rattle.tp_scenario.proofs.step.Runner.make.Goals as goal

pub returns : goal.returns
returns g c = λ p is.
    let m = c.self.inside.machine in
    let n = c.make.new.machine in
    let os = c.self.inside.outcomes.items in
    let a = g.S.Step.ask c.args.step in
    let at : IsAt (record { machine = m; outcomes = os }) p = subst (λ (r : Running). IsAt r p) (sym c.self.view_is) is in
    let fits : FitsOutcome m a = subst (λ (r : Running). FitsOutcome r.machine a) (sym c.self.view_is) c.requires.outcome in
    elim c.match-make.branch [
      | in-Ok w ↦ let d = g.S.Step.did c.args.step w.in-Ok.answer in rw (w.result-is, w.ask.ensures, w.did.ensures)
          (accepted m n os p at os None a d _ w.in-Ok.ensures.step (sym (append-nil os)) (ap (map (λ y. y.0.0)) c.new-handed.ensures.items ∙ none_back m n os p at a d w.in-Ok.ensures.step c.requires.quiet))
      | in-Err w ↦ rw (w.result-is, w.ask-ask.ensures) (denied m n os p at None a w.in-Err.error _ w.in-Err.ensures.unchanged (not_torn notes m a w.in-Err.error fits w.in-Err.ensures.refused))
    ]
