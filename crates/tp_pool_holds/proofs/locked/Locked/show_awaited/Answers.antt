use Rattle.std.proofs.Common.{ap, subst}
use Rattle.tp_pool_holds.specs.Readings.{IsFound}
use Rattle.tp_pool_holds.proofs.Moments.{known_of}
use Rattle.tp_pool_holds.proofs.locked.Locked.show_awaited.Goals as goal

pub returns-clause-reads : goal.returns-clause-reads
returns-clause-reads g c =
    known_of c.args.self.now.book (g.R.Recorder.terms g.G.PoolNaming.config) c.law_is_book.ensures c.show.new.pass (λ b. IsFound b c.args.t.0 g.R.Recorder.RECEIPTS c.args.deadline c.await_result.result) (ap (λ p. p.front) c.show.ensures.shown) (ap (λ p. p.released) c.show.ensures.shown)
    (subst (λ v. IsFound v.book c.args.t.0 g.R.Recorder.RECEIPTS c.args.deadline c.await_result.result) c.show.ensures.same c.await_result.ensures.here)
