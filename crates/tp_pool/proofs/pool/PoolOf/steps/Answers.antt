use Rattle.std.proofs.Common.{◌≡◌, length}
use Rattle.tp_pool_holds.proofs.Moments.{book_at_some}
use Rattle.tp_pool.proofs.pool.PoolOf.steps.Goals as goal

pub returns : goal.returns
returns g c = book_at_some c.book.result.now (g.K.Recorder.terms g.G.PoolNaming.config) c.book.ensures.stands (λ b. c.steps.result ≡ length b.history) c.steps.ensures
