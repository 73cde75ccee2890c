use Rattle.std.specs.Prelude.{◌↔◌, IsTrue}
use Rattle.tp_machine.specs.Readings.{HasOpen}
use Rattle.tp_pool_holds.proofs.Moments.{at_some}
use Rattle.tp_pool.proofs.pool.PoolOf.group_open.Goals as goal

pub returns : goal.returns
returns g c = at_some c.book.result.now (g.K.Recorder.terms g.G.PoolNaming.config) c.book.ensures.stands (λ s. IsTrue c.group_open.result ↔ HasOpen c.args.g s) c.group_open.ensures
