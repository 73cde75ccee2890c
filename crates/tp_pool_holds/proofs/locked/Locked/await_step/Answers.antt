use Rattle.std.proofs.Common.{◌≡◌, length, ap, subst}
use Rattle.tp_pool_holds.proofs.Moments.{book_at_some}
use Rattle.tp_pool_holds.proofs.locked.Locked.await_step.Goals as goal

pub returns-then-steps-seen-clause-some : goal.returns-then-steps-seen-clause-some
returns-then-steps-seen-clause-some g c = (
  search,
  book_at_some c.args.self.now.book (g.R.Recorder.terms g.G.PoolNaming.config) c.law_is_book.ensures (λ b. c.steps-steps.result ≡ length b.history)
      (subst (λ b. c.steps-steps.result ≡ length b.history) (ap (λ v. v.book) c.self.view_is) c.steps-steps.ensures),
)
