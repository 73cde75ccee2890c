use Rattle.std.proofs.Common.{◌<◌, length, arith, subst}
use Rattle.std.proofs.lemmas.Bool.Decides.{nat_tests}
use Rattle.std.proofs.lemmas.Result.{IfErr-weaker, IfOk-weaker}
use Rattle.std.specs.Prelude.{Any, IfErr}
use Rattle.tp_types.specs.declared.refusals.PoolError.{PoolError}
use Rattle.tp_book.specs.PassView.{PassView}
use Rattle.tp_pool_holds.specs.Passes.{AddsNone}
use Rattle.tp_pool_holds.specs.declared.tasks.Payload.{Payload}
use Rattle.tp_pool_holds.proofs.Receipts.{later_none, none_behind}
use Rattle.tp_service.specs.Futures.{HasValue, HaveFailed}
use Rattle.tp_service.specs.Submitted.{AddsCancels}
use Rattle.tp_service.proofs.Gathered.{no_value, turned_back}
use Rattle.tp_service.proofs.invoking.invoke_any.Goals as goal

pub returns-then-is_err-clause-refused : goal.returns-then-is_err-clause-refused
returns-then-is_err-clause-refused g c =
    let config = g.K.Recorder.terms g.G.PoolNaming.config in
    let some : 0 < length c.args.jobs.items = grind (arith, nat_tests, c.args.jobs.ok.0, c.if-is_empty.ensures) in
    let mid = c.submit_all.new.pass in
    let none = later_none mid c.forget_abandoned.new.pass (c.forget_abandoned.ensures.shown, c.forget_abandoned.ensures.goes_on) in
    let Failed : PassView → PoolError → Type 0 = λ from e. (told : PassView) × AddsNone from told × HaveFailed (Payload g.row.J.Denot) g.K.Recorder.RECEIPTS config c.in-Ok.tasks.items e told c.await_any-answer.new.pass in
    no_value g.K.Recorder.RECEIPTS config g.J.Job.promised g.J.Job.urgency c.args.jobs.items c.in-Ok.tasks.items c.await_any-answer.result c.args.pass.now mid c.await_any-answer.new.pass some c.in-Ok.ensures.submitted
    (IfErr-weaker c.await_any-answer.result (Failed c.forget_abandoned.new.pass) (Failed mid) (λ e failed. (failed.0, none_behind mid c.forget_abandoned.new.pass failed.0 none failed.1, failed.2))
    (subst (λ ts. IfErr c.await_any-answer.result (λ e. (told : PassView) × AddsNone c.forget_abandoned.new.pass told × HaveFailed (Payload g.row.J.Denot) g.K.Recorder.RECEIPTS config ts e told c.await_any-answer.new.pass))
    c.as_slice.ensures.value c.await_any-answer.ensures.failed))

pub returns-in-Err-clause-refused : goal.returns-in-Err-clause-refused
returns-in-Err-clause-refused g c =
    let some : 0 < length c.args.jobs.items = grind (arith, nat_tests, c.args.jobs.ok.0, c.if-is_empty.ensures) in
    turned_back g.K.Recorder.RECEIPTS (g.K.Recorder.terms g.G.PoolNaming.config) g.J.Job.promised g.J.Job.urgency c.args.jobs.items c.in-Err.error c.args.pass.now c.submit_all.new.pass some c.in-Err.ensures.refused

pub returns-clause-value : goal.returns-clause-value
returns-clause-value g c =
    IfOk-weaker c.await_any-answer.result _ _ (λ v value. record {
      tasks = c.in-Ok.tasks.items;
      mid = c.submit_all.new.pass;
      told = c.await_any-answer.new.pass;
      submits = c.in-Ok.ensures.submitted;
      looks = none_behind c.submit_all.new.pass c.forget_abandoned.new.pass c.await_any-answer.new.pass
          (later_none c.submit_all.new.pass c.forget_abandoned.new.pass (c.forget_abandoned.ensures.shown, c.forget_abandoned.ensures.goes_on)) c.await_any-answer.ensures.looks;
      value = subst (Any (HasValue (Payload g.row.J.Denot) (g.K.Recorder.terms g.G.PoolNaming.config) v c.await_any-answer.new.pass)) c.as_slice.ensures.value value;
      cancels = subst (λ ts. AddsCancels (Payload g.row.J.Denot) g.K.Recorder.RECEIPTS (g.K.Recorder.terms g.G.PoolNaming.config) ts c.await_any-answer.new.pass c.cancel_all.new.pass) c.as_slice-3.ensures.value c.cancel_all.ensures;
    }) c.await_any-answer.ensures.value
