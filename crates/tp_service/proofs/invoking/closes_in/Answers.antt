use Rattle.std.proofs.Common.{◌≡◌, rules}
use Rattle.std.specs.Prelude.{Err}
use Rattle.tp_types.specs.declared.refusals.PoolError.TheVariants.{TimedOut}
use Rattle.tp_service.proofs.Closed.{closed_in_time, overdue_found}
use Rattle.tp_service.proofs.invoking.closes_in.Goals as goal

pub returns-clause-closed : goal.returns-clause-closed
returns-clause-closed g c = λ yes.
    let told = c.await_result_for.ensures in
    let on : ¬ (c.await_result_for.result ≡ Err TimedOut) = search rules in
    (told.looks, closed_in_time g.K.Recorder.RECEIPTS (g.K.Recorder.terms g.G.PoolNaming.config) c.args.t c.await_result_for.new.pass c.await_result_for.result told.reads on)

pub returns-clause-late : goal.returns-clause-late
returns-clause-late g c = λ no.
    let told = c.await_result_for.ensures in
    let late : c.await_result_for.result ≡ Err TimedOut = search rules in
    (told.looks, overdue_found g.K.Recorder.RECEIPTS (g.K.Recorder.terms g.G.PoolNaming.config) c.args.t c.await_result_for.new.pass c.await_result_for.result told.reads late)
