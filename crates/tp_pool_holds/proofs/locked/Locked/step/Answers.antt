use Rattle.std.proofs.Common.{subst, ◌∙◌}
use Rattle.tp_book.specs.BookView.{ForgetsAllGone, config, left_of, released_of}
use Rattle.tp_pool_holds.specs.Roused.{IsRoused}
use Rattle.tp_pool_holds.proofs.Adding.{denies, holds}
use Rattle.tp_pool_holds.proofs.locked.Locked.step.Goals as goal

pub returns-in-Err-clause-denies : goal.returns-in-Err-clause-denies
returns-in-Err-clause-denies g c =
    denies g.R.Recorder.RECEIPTS c.args.self.now c.self.inside.book c.step_by.new.self c.self.inside.roster c.self.inside.waking c.self.view_is _ _ c.in-Err.ensures.refused c.in-Err.ensures.unchanged

pub returns-in-Err-clause-refused : goal.returns-in-Err-clause-refused
returns-in-Err-clause-refused g c = record {
  book = c.self.inside.book;
  is = record { settings = c.self.invariant.0; stands = c.law_is_balanced.ensures.stands; accounted = c.law_is_balanced.ensures.accounted };
  goes_on = c.in-Err.ensures.knew;
  denied = c.in-Err.ensures.refused;
  shown = c.in-Err.ensures.front ∙ c.in-Err.ensures.unchanged.history;
}

pub returns-clause-says : goal.returns-clause-says
returns-clause-says g c =
    let says = subst (λ k. g.S.Step.says c.args.step c.in-Ok.answer k c.self.inside.book.history) c.self.invariant.0 c.in-Ok.ensures.says in
    subst (λ v. g.S.Step.says c.args.step c.in-Ok.answer (g.R.Recorder.terms g.G.PoolNaming.config) v.book.history) c.self.view_is says

pub returns-clause-holds : goal.returns-clause-holds
returns-clause-holds g c =
    let roused =
    subst (λ a. IsRoused c.step_by.new.self c.self.inside.waking c.rouse.new.waking a (g.S.Step.did c.args.step c.in-Ok.answer)) c.ask.ensures
    (subst (λ d. IsRoused c.step_by.new.self c.self.inside.waking c.rouse.new.waking c.ask.result d) c.did.ensures c.rouse.ensures.roused) in
    let forgets_gone = subst (λ ts. ForgetsAllGone g.R.Recorder.RECEIPTS c.step_by.new.self c.forget.new.book ts) (c.gone.ensures _ _ c.in-Ok.ensures.says) c.forget.ensures.forgets_gone in
    holds g.R.Recorder.RECEIPTS c.args.self.now c.self.inside.book c.step_by.new.self c.forget.new.book c.self.inside.roster c.self.inside.waking c.rouse.new.waking c.self.view_is _ _ _ _
    c.in-Ok.ensures.step forgets_gone roused

pub gone-requires : goal.gone-requires
gone-requires g c =
    let stands = c.law_is_balanced.ensures.stands.stands in
    (config c.self.inside.book, left_of c.self.inside.book, c.in-Ok.ensures.step.step.gives c.self.inside.book.history (released_of c.self.inside.book) stands)
