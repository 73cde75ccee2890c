use Rattle.std.proofs.Common.{◌∷◌, [], ◌++◌, ◌∙◌, Some, map, refl, sym, ap, subst}
use Rattle.tp_record.specs.declared.entries.Ask.TheVariants as ask
use Rattle.tp_record.specs.declared.entries.Did.TheVariants as did
use Rattle.tp_machine_state.specs.Payloads.{PutsIn}
use Rattle.tp_machine.specs.Seen.{At}
use Rattle.tp_scenario.specs.Answered.{ArePromised, IsAt, Running, notes}
use Rattle.tp_machine.proofs.Making.{not_torn}
use Rattle.tp_scenario.proofs.StepLaws.{accepted, denied, promised_more}
use Rattle.tp_scenario.proofs.step.Runner.submit.Goals as goal

pub invariant_of-self-in-Ok : goal.invariant_of-self-in-Ok
invariant_of-self-in-Ok c =
    let m = c.self.inside.machine in
    let n = c.make.new.machine in
    let os = c.self.inside.outcomes.items in
    let o = c.args.outcome in
    let x = c.in-Ok.answer in
    let stood = c.law_has_history.ensures in
    let at = subst (λ rs. At notes m stood.0 rs) stood.2.told.1 stood.2 in
    let puts = subst (λ q. PutsIn m.parts.tasks n.parts.tasks x.0.0 q tt) c.promise_of.ensures c.in-Ok.ensures.moves in
    subst (ArePromised n) (sym (c.push_reserved.ensures.items ∙ ap (λ ys. ys ++ o ∷ []) c.reserve.ensures.items))
    (promised_more m n os c.self.invariant stood.0 (ask.Submit c.args.kind c.args.priority) (did.Submit x.0 c.args.kind c.args.priority x.1) x.0.0 o at c.in-Ok.ensures.step refl puts c.law_keeps_waiting.ensures.promises)

pub returns-in-Err-clause-tells : goal.returns-in-Err-clause-tells
returns-in-Err-clause-tells c = λ p is.
    let m = c.self.inside.machine in
    let n = c.make.new.machine in
    let os = c.self.inside.outcomes.items in
    let a = ask.Submit c.args.kind c.args.priority in
    let at : IsAt (record { machine = m; outcomes = os }) p = subst (λ (r : Running). IsAt r p) (sym c.self.view_is) is in
    rw c.reserve.ensures.items
    (denied m n os p at (Some c.args.outcome) a c.in-Err.error _ c.in-Err.ensures.unchanged (not_torn notes m a c.in-Err.error tt c.in-Err.ensures.refused))

pub returns-in-Ok-clause-tells : goal.returns-in-Ok-clause-tells
returns-in-Ok-clause-tells c = λ p is.
    let m = c.self.inside.machine in
    let n = c.make.new.machine in
    let os = c.self.inside.outcomes.items in
    let o = c.args.outcome in
    let a = ask.Submit c.args.kind c.args.priority in
    let x = c.in-Ok.answer in
    let at : IsAt (record { machine = m; outcomes = os }) p = subst (λ (r : Running). IsAt r p) (sym c.self.view_is) is in
    rw c.did-did.ensures
    (accepted m n os p at c.push_reserved.new.self.items (Some o) a (did.Submit x.0 c.args.kind c.args.priority x.1) _ c.in-Ok.ensures.step
    (c.push_reserved.ensures.items ∙ ap (λ ys. ys ++ o ∷ []) c.reserve.ensures.items) (ap (map (λ y. y.0.0)) c.new-handed.ensures.items))
