use Rattle.tp_pool_holds.specs.declared.tasks.Payload.{Payload}
use Rattle.tp_service.specs.Futures.{Closes}
use Rattle.tp_pool.proofs.Turned.{through_next}
use Rattle.tp_service.proofs.invoking.await_all.Goals as goal

pub loop-t-preserved : goal.loop-t-preserved
loop-t-preserved g c =
    through_next (Closes (Payload g.row.J.Denot) g.K.Recorder.RECEIPTS (g.K.Recorder.terms g.G.PoolNaming.config)) c.args.tasks.now c.loop-t.t-index _ c.args.pass.now c.loop-t.pass c.await_closed.new.pass
    c.loop-t-test.true c.loop-t.invariant c.await_closed.ensures
