use Rattle.std.proofs.Common.{◌≡◌, [], ◌∷◌, ◌++◌, append_assoc, ap, ◌∙◌, sym, subst, arith, rules}
use Rattle.tp_pool.specs.Lives.{AreSubmitted}
use Rattle.tp_pool.specs.Submissions.{Submits}
use Rattle.tp_pool.proofs.Turned.{all_passed, both_more}
use Rattle.tp_pool.proofs.lives.submit_each.Goals as goal

pub loop-job-preserved : goal.loop-job-preserved
loop-job-preserved g c =
    let keeps = g.K.Recorder.RECEIPTS in
    let terms = g.K.Recorder.terms g.G.PoolNaming.config in
    let promised = g.J.Job.promised in
    let urgency = g.J.Job.urgency in
    let job = c.in-Some.job in
    let jobs = c.loop-job.yielded in
    let tasks = c.loop-job.tasks.items in
    let task = c.submitted.result in (
      tt,
      tt,
      append_assoc jobs (job ∷ []) c.next.new.self.rest.items ∙ ap (λ xs. jobs ++ xs) (sym c.in-Some.ensures.steps.0) ∙ c.loop-job.invariant.2,
      subst (λ ts. AreSubmitted keeps terms promised urgency (jobs ++ job ∷ []) ts c.args.pass.now c.submitted.new.pass) (sym c.in_ok-push.ensures.items)
          (both_more (λ j t. Submits keeps terms j (promised j) (urgency j) t) jobs tasks job task c.args.pass.now c.loop-job.pass c.submitted.new.pass c.loop-job.invariant.3 c.submitted.ensures),
    )

pub returns-clause-submitted : goal.returns-clause-submitted
returns-clause-submitted g c =
    let rest = c.loop-job.job-iterator.rest in
    let gives : c.into_iter-job-iterator.result.rest.items ≡ c.args.jobs.items = search rules in
    let all = all_passed c.loop-job.yielded rest.items c.args.jobs.items (c.loop-job.invariant.2 ∙ gives) (omega (arith, c.in-None.ensures.steps.0, rest.ok.0)) in
    subst (λ jobs. AreSubmitted g.K.Recorder.RECEIPTS (g.K.Recorder.terms g.G.PoolNaming.config) g.J.Job.promised g.J.Job.urgency jobs c.loop-job.tasks.items c.args.pass.now c.loop-job.pass) all c.loop-job.invariant.3
