use Rattle.std.proofs.Common.{Bool, subst, sym}
use Rattle.tp_record.specs.declared.entries.Did.TheVariants as did
use Rattle.tp_machine_state.specs.Payloads.{Keeps}
use Rattle.tp_pool_holds.specs.Passes.{opening}
use Rattle.tp_pool_holds.specs.Steps.{Makes}
use Rattle.tp_pool_holds.proofs.slots.opened.Goals as goal

pub returns-in-Ok-step-clause-makes : goal.returns-in-Ok-step-clause-makes
returns-in-Ok-step-clause-makes g c =
    let A = g.A.Payer in
    subst
    (λ (staffed : Bool). Makes g.row.J.Denot (g.K.Recorder.terms g.G.PoolNaming.config) (A.number c.args.pass.now) (A.front c.args.pass.now) (opening c.args.w staffed) (did.Fail c.args.w c.in-Ok-step.failed) Keeps (A.front c.step.new.pass))
    (sym c.if-staffed.false) c.in-Ok-step.ensures.makes
