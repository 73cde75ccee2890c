use Rattle.std.proofs.Common.{ap, subst}
use Rattle.tp_pool_holds.specs.Readings.{IsResult}
use Rattle.tp_pool_holds.proofs.Moments.{known_of}
use Rattle.tp_pool_holds.proofs.locked.Locked.show_result.Goals as goal

pub returns-clause-reads : goal.returns-clause-reads
returns-clause-reads g c =
    known_of c.args.self.now.book (g.R.Recorder.terms g.G.PoolNaming.config) c.law_is_book.ensures c.show.new.pass (λ b. IsResult b c.args.t.0 g.R.Recorder.RECEIPTS c.result.result) (ap (λ p. p.front) c.show.ensures.shown) (ap (λ p. p.released) c.show.ensures.shown)
    (subst (λ v. IsResult v.book c.args.t.0 g.R.Recorder.RECEIPTS c.result.result) c.show.ensures.same
    (subst (λ b. IsResult b c.args.t.0 g.R.Recorder.RECEIPTS c.result.result) c.book.ensures.same (c.result.ensures.value, c.result.ensures.promised)))
