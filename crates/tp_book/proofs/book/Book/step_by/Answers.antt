use Rattle.std.proofs.Common.{subst, sym}
use Rattle.tp_glance.specs.Word.{IsFrontOf}
use Rattle.tp_glance.proofs.Fronts.{IsFrontOf_noted}
use Rattle.tp_book.proofs.Stepping.{grown, rank_at, asked_step, small_step, advances, unmoved, denies}
use Rattle.tp_book.proofs.book.Book.step_by.Goals as goal

pub returns-in-Err-clause-refused : goal.returns-in-Err-clause-refused
returns-in-Err-clause-refused g c =
    denies g.R.Recorder.tells g.R.Recorder.terms g.R.Recorder.RECEIPTS c.law_forgets_at_will.ensures.whole c.args.self.now c.self.inside.machine c.self.inside.accounts c.self.inside.seat c.self.invariant.0 c.self.view_is
    _ c.in-Err.refused.0 c.in-Err.ensures.refused

pub returns-in-Err-clause-unchanged : goal.returns-in-Err-clause-unchanged
returns-in-Err-clause-unchanged g c =
    unmoved g.R.Recorder.tells g.R.Recorder.terms g.R.Recorder.RECEIPTS c.law_forgets_at_will.ensures.whole c.args.self.now c.self.inside.machine c.self.inside.accounts c.self.inside.seat c.self.invariant.0 c.self.view_is
    c.make.new.machine _ c.learn.ensures.same c.in-Err.ensures.unchanged

pub pay-requires-clause-before : goal.pay-requires-clause-before
pay-requires-clause-before g c = rank_at g.R.Recorder.tells g.R.Recorder.terms c.self.inside.machine c.self.inside.seat _ c.self.invariant.0 c.state-before.ensures

pub pay-requires-clause-after : goal.pay-requires-clause-after
pay-requires-clause-after g c =
    rank_at g.R.Recorder.tells g.R.Recorder.terms c.make.new.machine _ _
    (grown g.R.Recorder.tells g.R.Recorder.terms c.self.inside.machine c.make.new.machine c.self.inside.seat c.payer-by.result _ c.ask.result _ c.did.result c.self.invariant.0
    c.in-Ok.ensures.step c.ask.ensures c.did.ensures)
    c.state.ensures

pub returns-clause-step : goal.returns-clause-step
returns-clause-step g c =
    advances g.R.Recorder.tells g.R.Recorder.terms g.R.Recorder.RECEIPTS c.law_forgets_at_will.ensures.whole c.args.self.now c.self.inside.machine c.self.inside.accounts c.self.inside.seat c.self.invariant.0 c.self.view_is
    c.make.new.machine
    _ _ c.payer-by.result _ _ c.ask.result _ c.did.result _ c.payer-by.ensures c.ask.ensures c.did.ensures c.in-Ok.ensures.promised
    c.in-Ok.ensures.step c.in-Ok.ensures.moves c.pay.ensures.total c.pay.ensures.noted

pub returns-clause-goes_on : goal.returns-clause-goes_on
returns-clause-goes_on g c = subst (λ h. IsFrontOf (g.A.Payer.front c.args.pass.now) h.entries) (sym c.pay.ensures.noted) (IsFrontOf_noted _ c.pay.ensures.knew)

-- what the machine's step gives tells its ask
pub pay-requires-clause-asked : goal.pay-requires-clause-asked
pay-requires-clause-asked g c =
    asked_step g.R.Recorder.tells g.R.Recorder.terms c.self.inside.machine c.make.new.machine c.self.inside.seat c.payer-by.result _ c.ask.result _ c.did.result c.self.invariant.0
    c.in-Ok.ensures.step c.ask.ensures c.did.ensures

-- and names slots that the machine has, before it or after it
pub pay-requires-clause-slots : goal.pay-requires-clause-slots
pay-requires-clause-slots g c =
    small_step g.R.Recorder.tells g.R.Recorder.terms c.self.inside.machine c.make.new.machine c.self.inside.seat c.payer-by.result _ _ c.did.result c.self.invariant.0
    c.in-Ok.ensures.step c.did.ensures c.law_slots_are_small.ensures c.law_slots_are_small-2.ensures
