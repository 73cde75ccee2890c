use Rattle.std.proofs.Common.{inr, refl, subst, ◌∙◌}
use Rattle.tp_record.specs.declared.entries.Ask.TheVariants as ask
use Rattle.tp_book.specs.BookView.{IsDenied}
use Rattle.tp_pool_holds.specs.LockedView.{LockedView}
use Rattle.tp_pool_holds.proofs.Adding.{holds}
use Rattle.tp_pool_holds.proofs.locked.Locked.submit.Goals as goal

pub returns-in-Err-step_by-clause-refused : goal.returns-in-Err-step_by-clause-refused
returns-in-Err-step_by-clause-refused g c =
    let refused = c.in-Err-step_by.ensures in
    inr (record {
      book = c.self.inside.book;
      is = record { settings = c.self.invariant.0; stands = c.law_is_balanced.ensures.stands; accounted = c.law_is_balanced.ensures.accounted };
      goes_on = refused.knew;
      denied = refused.refused;
      shown = refused.front ∙ refused.unchanged.history;
    })

pub returns-in-Err-step_by-clause-denied : goal.returns-in-Err-step_by-clause-denied
returns-in-Err-step_by-clause-denied g c =
    inr (subst (λ (v : LockedView g.row.J.Denot). IsDenied g.R.Recorder.RECEIPTS v.book (ask.Submit c.args.step.kind c.args.step.priority) c.in-Err-step_by.refused.0) c.self.view_is c.in-Err-step_by.ensures.refused)

pub returns-clause-holds : goal.returns-clause-holds
returns-clause-holds g c =
    holds g.R.Recorder.RECEIPTS c.args.self.now c.self.inside.book c.step_by.new.self c.step_by.new.self c.self.inside.roster c.self.inside.waking c.rouse.new.waking c.self.view_is _ _ _ _
    c.in-Ok.ensures.step refl c.rouse.ensures.roused
