use Rattle.std.proofs.Common.{◌+◌, ◌*◌, ◌≤◌}
use Rattle.tp_record.specs.Step.{Legal}
use Rattle.tp_pool.proofs.Starts.{Started}
use Rattle.tp_pool.proofs.pool.PoolOf.prestart_some.Given as goal

abbrev pub invariant-loop : goal.invariant-loop
invariant-loop g l = Started (g.K.Recorder.terms g.G.PoolNaming.config) l.fn.pass l.counter l.pass × (2 * l.most ≤ l.pass.room + 2 * l.counter) × Legal (g.K.Recorder.terms g.G.PoolNaming.config) l.pass.front
