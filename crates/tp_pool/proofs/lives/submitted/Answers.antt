use Rattle.std.proofs.Common.{refl, sym, subst}
use Rattle.tp_types.specs.declared.tasks.Kind.TheVariants as kind
use Rattle.tp_pool.specs.Submissions.{AddsJob}
use Rattle.tp_pool.proofs.Submissions.{admits_job}
use Rattle.tp_pool.proofs.lives.submitted.Goals as goal

pub returns-in-Ok : goal.returns-in-Ok
returns-in-Ok g c =
    let old = c.args.pass.now in
    let new = c.execute_when_room.new.pass in
    let terms = g.K.Recorder.terms g.G.PoolNaming.config in
    let job = c.args.job in
    let promise = g.J.Job.promised job in
    let urgency = g.J.Job.urgency job in
    subst (λ t. AddsJob terms kind.Future job promise urgency t old new) (sym c.task_of.ensures) (admits_job terms kind.Future job promise urgency c.in-Ok.admitted old new c.in-Ok.ensures.admitted)

pub returns-in-Err : goal.returns-in-Err
returns-in-Err g c = (c.in-Err.refused, refl, c.in-Err.ensures.refused)
