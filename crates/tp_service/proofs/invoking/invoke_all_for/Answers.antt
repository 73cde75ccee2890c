use Rattle.std.proofs.Common.{inr, subst, rules}
use Rattle.tp_pool_holds.specs.declared.tasks.Payload.{Payload}
use Rattle.tp_service.specs.Futures.{IsOverdue}
use Rattle.tp_service.specs.Submitted.{AddsCancels, IsOneLate}
use Rattle.tp_service.proofs.invoking.invoke_all_for.Goals as goal

pub returns-clause-all : goal.returns-clause-all
returns-clause-all g c =
    let config = g.K.Recorder.terms g.G.PoolNaming.config in
    let mid = c.submit_all.new.pass in
    let told = c.all_close_in.new.pass in
    let late = c.if-all_close_in.ensures.late (search rules) in
    inr (
      mid,
      told,
      c.in_ok-tasks.ensures.submitted,
      subst (λ ts. IsOneLate (IsOverdue (Payload g.row.J.Denot) config) ts mid told) c.as_slice.ensures.value late,
      subst (λ ts. AddsCancels (Payload g.row.J.Denot) g.K.Recorder.RECEIPTS config ts told c.cancel_all.new.pass) c.as_slice-2.ensures.value c.cancel_all.ensures,
    )
