use Rattle.std.proofs.Common.{ap, subst}
use Rattle.tp_pool_holds.specs.Readings.{IsFound}
use Rattle.tp_pool_holds.proofs.Moments.{book_at_some}
use Rattle.tp_pool_holds.proofs.Waiting.{found}
use Rattle.tp_pool_holds.proofs.locked.Locked.await_result.Goals as goal

pub returns-then-matches-clause-some : goal.returns-then-matches-clause-some
returns-then-matches-clause-some g c =
    book_at_some c.args.self.now.book (g.R.Recorder.terms g.G.PoolNaming.config) c.law_is_book.ensures (λ b. IsFound b c.args.t.0 g.R.Recorder.RECEIPTS c.args.deadline c.unless_late-found.result)
    (subst (λ b. IsFound b c.args.t.0 g.R.Recorder.RECEIPTS c.args.deadline c.unless_late-found.result) (ap (λ v. v.book) c.self.view_is)
    (found c.self.inside.book c.args.t.0 g.R.Recorder.RECEIPTS c.args.deadline c.now.result c.has_come-late.result c.result.result c.unless_late-found.result
    c.now.ensures c.has_come-late.ensures c.result.ensures.value c.result.ensures.promised c.unless_late-found.ensures))

pub returns-else-matches-clause-some : goal.returns-else-matches-clause-some
returns-else-matches-clause-some g c =
    book_at_some c.args.self.now.book (g.R.Recorder.terms g.G.PoolNaming.config) c.law_is_book.ensures (λ b. IsFound b c.args.t.0 g.R.Recorder.RECEIPTS c.args.deadline c.unless_late-found.result)
    (subst (λ b. IsFound b c.args.t.0 g.R.Recorder.RECEIPTS c.args.deadline c.unless_late-found.result) (ap (λ v. v.book) c.self.view_is)
    (found c.self.inside.book c.args.t.0 g.R.Recorder.RECEIPTS c.args.deadline c.now.result c.has_come-late.result c.result.result c.unless_late-found.result
    c.now.ensures c.has_come-late.ensures c.result.ensures.value c.result.ensures.promised c.unless_late-found.ensures))
