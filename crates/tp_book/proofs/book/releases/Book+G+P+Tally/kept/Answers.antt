use Rattle.tp_book.proofs.Forgetting.{counts_kept}
use Rattle.tp_book.proofs.book.releases.Book+G+P+Tally.kept.Goals as goal

pub returns : goal.returns
returns g c =
    counts_kept _ _ _ c.law_forgets_at_will.ensures.whole
    c.args.self.now c.self.inside.machine c.self.inside.accounts c.self.inside.seat c.self.invariant.0 c.self.view_is
    c.kept.result c.kept.ensures
