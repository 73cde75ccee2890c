use Rattle.std.proofs.Common.{◌≡◌, false, take}
use Rattle.std.specs.Prelude.{None}
use Rattle.tp_pool_holds.specs.Passes.{AddsNone}
use Rattle.tp_pool_holds.specs.declared.tasks.Payload.{Payload}
use Rattle.tp_service.specs.Futures.{Fails}
use Rattle.tp_pool.specs.Turns.{Through}
use Rattle.tp_service.proofs.invoking.any_of.Given as goal

abbrev pub invariant-loop-t : goal.invariant-loop-t
invariant-loop-t g l =
    (l.open ≡ false → Through (Fails (Payload g.row.J.Denot) g.K.Recorder.RECEIPTS (g.K.Recorder.terms g.G.PoolNaming.config)) (take l.t-index l.tasks) (l.fn.pass, None) (l.pass, l.fault))
    × AddsNone l.fn.pass l.pass
