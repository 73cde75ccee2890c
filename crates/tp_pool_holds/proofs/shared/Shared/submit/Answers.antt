use Rattle.std.proofs.Common.{inl, inr, refl}
use Rattle.tp_record.specs.declared.entries.Ask.TheVariants as ask
use Rattle.tp_record.specs.declared.entries.Did.TheVariants as did
use Rattle.tp_machine_state.specs.Payloads.{PutsIn}
use Rattle.tp_pool_holds.proofs.Adding.{adds_step, own_refusal}
use Rattle.tp_pool_holds.specs.declared.tasks.Payload.{Payload}
use Rattle.tp_pool_holds.proofs.shared.Shared.submit.Goals as goal

pub returns-in-Ok-clause-makes : goal.returns-in-Ok-clause-makes
returns-in-Ok-clause-makes g c =
    let task : Payload g.row.J.Denot = record { job = c.args.job } in (task, refl, c.in-Ok.ensures.makes)

pub returns-in-Ok-clause-step : goal.returns-in-Ok-clause-step
returns-in-Ok-clause-step g c =
    let x = c.in-Ok.submitted in
    let task : Payload g.row.J.Denot = record { job = c.args.job } in
    adds_step (g.K.Recorder.terms g.G.PoolNaming.config) c.args.pass.now c.submit-submitted.new.pass (ask.Submit c.args.step.kind c.args.step.priority) (did.Submit x.0 c.args.step.kind c.args.step.priority x.1)
    (λ old new. PutsIn old new x.0.0 c.args.step.promise task) c.in-Ok.ensures.makes c.in-Ok.ensures.paid.0

pub returns-in-Err-clause-refused : goal.returns-in-Err-clause-refused
returns-in-Err-clause-refused g c = elim c.in-Err.ensures.refused [
  | inl want ↦ inl (want, tt)
  | inr refused ↦ inr (own_refusal (g.K.Recorder.terms g.G.PoolNaming.config) g.K.Recorder.RECEIPTS c.args.pass.now.front (ask.Submit c.args.step.kind c.args.step.priority) _ c.submit-submitted.new.pass.front
      refl tt refused)
]
