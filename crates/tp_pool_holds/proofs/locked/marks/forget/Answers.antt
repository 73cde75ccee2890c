use Rattle.std.proofs.Common.{[], ◌∷◌, refl, sym, subst}
use Rattle.tp_book.specs.BookView.{ForgetsAllGone}
use Rattle.tp_book.proofs.Forgetting.{all_config, all_history}
use Rattle.tp_pool_holds.specs.Gone.{named}
use Rattle.tp_pool_holds.proofs.locked.marks.forget.Goals as goal

pub returns-in-One-clause-forgets_gone : goal.returns-in-One-clause-forgets_gone
returns-in-One-clause-forgets_gone g c =
    let one : ForgetsAllGone g.R.Recorder.RECEIPTS c.args.book.now c.forget.new.self (c.in-One.t.0 ∷ []) = (c.forget.new.self, c.forget.ensures, refl) in
    subst (λ x. ForgetsAllGone g.R.Recorder.RECEIPTS c.args.book.now c.forget.new.self (named x)) (sym c.in-One.is) one

pub returns-in-One-clause-config : goal.returns-in-One-clause-config
returns-in-One-clause-config g c = all_config g.R.Recorder.RECEIPTS c.args.book.now c.forget.new.self (c.in-One.t.0 ∷ []) (c.forget.new.self, c.forget.ensures, refl)

pub returns-in-One-clause-history : goal.returns-in-One-clause-history
returns-in-One-clause-history g c = all_history g.R.Recorder.RECEIPTS c.args.book.now c.forget.new.self (c.in-One.t.0 ∷ []) (c.forget.new.self, c.forget.ensures, refl)
