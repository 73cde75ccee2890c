use Rattle.tp_pool_holds.specs.Readings.{IsPromiseOf}
use Rattle.tp_pool_holds.proofs.Moments.{book_at_some}
use Rattle.tp_pool.proofs.pool.PoolOf.promise.Goals as goal

pub returns : goal.returns
returns g c =
    book_at_some c.book.result.now (g.K.Recorder.terms g.G.PoolNaming.config) c.book.ensures.stands (λ b. IsPromiseOf b c.args.t.0 g.K.Recorder.RECEIPTS c.promise.result)
    (c.promise.ensures.promise, c.promise.ensures.unknown)
