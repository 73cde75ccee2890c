use Rattle.std.proofs.Common.{◌≡◌, ◌+◌, length, ap, subst}
use Rattle.tp_book.specs.BookView.{released_of, state_of}
use Rattle.tp_pool_holds.proofs.Moments.{book_at_some}
use Rattle.tp_pool_holds.proofs.locked.releases.Locked+G+J+Tally.kept.Goals as goal

pub returns-clause-some : goal.returns-clause-some
returns-clause-some g c =
    book_at_some c.args.self.now.book _ c.law_is_book.ensures (λ b. c.kept.result + length (released_of b) ≡ length (state_of b).tasks)
    (subst (λ b. c.kept.result + length (released_of b) ≡ length (state_of b).tasks) (ap (λ v. v.book) c.self.view_is) c.kept.ensures)
