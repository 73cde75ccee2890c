use Rattle.std.proofs.Common.{◌≡◌, [], ◌∷◌, ◌++◌, length, append_assoc, inr, refl, sym, subst, ap, ◌∙◌, arith, rules}
use Rattle.std.proofs.lemmas.List.{length_push}
use Rattle.tp_types.specs.declared.tasks.Kind.TheVariants as kind
use Rattle.tp_pool_holds.specs.declared.tasks.Payload.{Payload}
use Rattle.tp_pool.specs.Submissions.{AddsJob}
use Rattle.tp_pool.proofs.Turned.{all_passed, both_more}
use Rattle.tp_service.specs.Submitted.{AddsCancels, AddsSubmissions}
use Rattle.tp_service.proofs.invoking.submit_all.Goals as goal

pub loop-job-preserved : goal.loop-job-preserved
loop-job-preserved g c =
    let config = g.K.Recorder.terms g.G.PoolNaming.config in
    let promised = g.J.Job.promised in
    let urgency = g.J.Job.urgency in
    let job = c.in-Some.job in
    let jobs = c.loop-job.yielded in
    let tasks = c.loop-job.tasks.items in
    let t = c.in-Ok-submit.t in
    let more = c.push_reserved.ensures.items in
    let next = c.in-Some.ensures.steps.0 in (
      tt,
      tt,
      omega (arith, ap length more, length_push tasks t, length_push jobs job, c.loop-job.invariant.2),
      search rules,
      append_assoc jobs (job ∷ []) c.next.new.self.rest.items ∙ ap (λ xs. jobs ++ xs) (sym next) ∙ c.loop-job.invariant.4,
      subst (λ ts. AddsSubmissions config promised urgency (jobs ++ job ∷ []) ts c.args.pass.now c.submit.new.pass) (sym more)
          (both_more (λ j t. AddsJob config kind.Future j (promised j) (urgency j) t) jobs tasks job t c.args.pass.now c.loop-job.pass c.submit.new.pass c.loop-job.invariant.5 c.in-Ok-submit.ensures.submitted),
    )

pub returns-in-Err-clause-refused : goal.returns-in-Err-clause-refused
returns-in-Err-clause-refused g c =
    let config = g.K.Recorder.terms g.G.PoolNaming.config in
    let submitted = c.submit.new.pass in
    let gives : c.into_iter-job-iterator.result.rest.items ≡ c.args.jobs.items = search rules in
    inr (record {
      before = c.loop-job.yielded;
      job = c.in-Some.job;
      behind = c.next.new.self.rest.items;
      are = sym (ap (λ xs. c.loop-job.yielded ++ xs) (sym c.in-Some.ensures.steps.0) ∙ (c.loop-job.invariant.4 ∙ gives));
      earlier = c.loop-job.tasks.items;
      submitted = c.loop-job.pass;
      refused = submitted;
      submits = c.loop-job.invariant.5;
      refuses = (c.in-Err.refused, refl, c.in-Err.ensures.refused);
      cancels = subst (λ ts. AddsCancels (Payload g.row.J.Denot) g.K.Recorder.RECEIPTS config ts submitted c.cancel_all.new.pass) c.as_slice-earlier.ensures.value c.cancel_all.ensures;
    })

pub returns-clause-submitted : goal.returns-clause-submitted
returns-clause-submitted g c =
    let rest = c.loop-job.job-iterator.rest in
    let gives : c.into_iter-job-iterator.result.rest.items ≡ c.args.jobs.items = search rules in
    let all = all_passed c.loop-job.yielded rest.items c.args.jobs.items (c.loop-job.invariant.4 ∙ gives) (omega (arith, c.in-None.ensures.steps.0, rest.ok.0)) in
    subst (λ jobs. AddsSubmissions (g.K.Recorder.terms g.G.PoolNaming.config) g.J.Job.promised g.J.Job.urgency jobs c.loop-job.tasks.items c.args.pass.now c.loop-job.pass) all c.loop-job.invariant.5
