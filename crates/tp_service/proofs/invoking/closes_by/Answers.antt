use Rattle.std.proofs.Common.{◌≡◌, rules}
use Rattle.std.specs.Prelude.{Err}
use Rattle.tp_types.specs.declared.refusals.PoolError.TheVariants.{TimedOut}
use Rattle.tp_service.proofs.Closed.{closed_found, late_found}
use Rattle.tp_service.proofs.invoking.closes_by.Goals as goal

pub returns-clause-closed : goal.returns-clause-closed
returns-clause-closed g c = λ yes.
    let told = c.await_result_with.ensures in
    let on : ¬ (c.await_result_with.result ≡ Err TimedOut) = search rules in
    (told.looks, closed_found g.K.Recorder.RECEIPTS (g.K.Recorder.terms g.G.PoolNaming.config) c.args.t c.await_result_with.new.pass c.args.deadline c.await_result_with.result told.reads on)

pub returns-clause-late : goal.returns-clause-late
returns-clause-late g c = λ no.
    let told = c.await_result_with.ensures in
    let late : c.await_result_with.result ≡ Err TimedOut = search rules in
    (told.looks, late_found g.K.Recorder.RECEIPTS (g.K.Recorder.terms g.G.PoolNaming.config) c.args.t c.await_result_with.new.pass c.args.deadline c.await_result_with.result told.reads late)
