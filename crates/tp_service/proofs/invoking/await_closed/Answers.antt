use Rattle.tp_service.proofs.Closed.{closed_awaited}
use Rattle.tp_service.proofs.invoking.await_closed.Goals as goal

pub returns : goal.returns
returns g c =
    let told = c.await_result_with.ensures in
    (told.looks, closed_awaited g.K.Recorder.RECEIPTS (g.K.Recorder.terms g.G.PoolNaming.config) c.args.t c.await_result_with.new.pass c.await_result_with.result told.reads)
