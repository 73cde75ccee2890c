use Rattle.std.proofs.Common.{take}
use Rattle.tp_pool_holds.specs.declared.tasks.Payload.{Payload}
use Rattle.tp_service.specs.Futures.{CloseAll}
use Rattle.tp_service.proofs.invoking.await_all.Given as goal

abbrev pub invariant-loop-t : goal.invariant-loop-t
invariant-loop-t g l = CloseAll (Payload g.row.J.Denot) g.K.Recorder.RECEIPTS (g.K.Recorder.terms g.G.PoolNaming.config) (take l.t-index l.tasks) l.fn.pass l.pass
