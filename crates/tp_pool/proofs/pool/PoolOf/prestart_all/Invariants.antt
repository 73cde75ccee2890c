use Rattle.std.proofs.Common.{◌≡◌, ◌+◌, ◌*◌, ◌≤◌}
use Rattle.tp_pool_holds.specs.Passes.{AddsNone}
use Rattle.tp_pool.proofs.Starts.{Started}
use Rattle.tp_pool.proofs.pool.PoolOf.prestart_all.Given as goal

abbrev pub invariant-loop-live : goal.invariant-loop-live
invariant-loop-live g l =
    Started (g.K.Recorder.terms g.G.PoolNaming.config) l.fn.pass l.live l.pass × (2048 ≤ l.pass.room + 2 * l.live) × (l.live ≡ 0 → AddsNone l.fn.pass l.pass)
