use Rattle.std.proofs.Common.{sym, subst}
use Rattle.tp_glance.specs.Word.{with_released}
use Rattle.tp_machine.specs.Releases.{released_with}
use Rattle.tp_machine.specs.Seen.{At}
use Rattle.tp_book.specs.BookView.{ForgetsGone}
use Rattle.tp_book.proofs.Reading.{seen}
use Rattle.tp_book.proofs.Forgetting.{forgets_gone, stays_unforgotten}
use Rattle.tp_book.proofs.book.Book.forget.Goals as goal

pub returns : goal.returns
returns g c =
    let old = c.self.inside.seat in
    let at = subst (λ b. At g.R.Recorder.tells c.forget.new.machine old.entries (released_with b c.args.t.0 old.released)) c.if-not-forget.false (c.forget.ensures.stands old.entries old.released c.self.invariant.0.stands) in
    subst (λ h. ForgetsGone g.R.Recorder.RECEIPTS c.args.self.now (seen c.forget.new.machine h g.R.Recorder.RECEIPTS c.self.inside.accounts) c.args.t.0) (sym c.forget-2.ensures)
    (forgets_gone g.R.Recorder.tells g.R.Recorder.terms g.R.Recorder.RECEIPTS c.law_forgets_at_will.ensures.whole
    c.args.self.now c.self.inside.machine c.self.inside.accounts c.self.inside.seat c.self.invariant.0 c.self.view_is c.forget.new.machine c.args.t.0 c.forget.ensures.others
    c.forget.ensures.config c.forget.result c.if-not-forget.false c.forget.ensures.whole c.forget.ensures.forgets at)

pub returns-then-not-forget : goal.returns-then-not-forget
returns-then-not-forget g c =
    stays_unforgotten g.R.Recorder.tells g.R.Recorder.terms g.R.Recorder.RECEIPTS c.law_forgets_at_will.ensures.whole
    c.args.self.now c.self.inside.machine c.self.inside.accounts c.self.inside.seat c.self.invariant.0 c.self.view_is c.forget.new.machine c.args.t.0
    (c.forget.ensures.unchanged c.if-not-forget.true) (λ none. c.forget.ensures.keeps none c.if-not-forget.true)
