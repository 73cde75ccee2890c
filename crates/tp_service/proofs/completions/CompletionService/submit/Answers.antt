use Rattle.std.proofs.Common.{sym, subst}
use Rattle.tp_types.specs.declared.tasks.Kind.TheVariants as kind
use Rattle.tp_pool.specs.Submissions.{AddsJob}
use Rattle.tp_pool.proofs.Submissions.{admits_job}
use Rattle.tp_service.proofs.completions.CompletionService.submit.Goals as goal

pub returns-in-Ok-clause-submitted : goal.returns-in-Ok-clause-submitted
returns-in-Ok-clause-submitted g c =
    let old = c.args.pass.now in
    let new = c.execute_as.new.pass in
    let group = kind.Group c.args.self.now.group in
    let config = g.K.Recorder.terms g.G.PoolNaming.config in
    let job = c.args.job in
    let promise = g.J.Job.promised job in
    let urgency = g.J.Job.urgency job in
    subst (λ t. AddsJob config group job promise urgency t old new) (sym c.task_of.ensures) (admits_job config group job promise urgency c.in-Ok.admitted old new c.in-Ok.ensures.admitted)
