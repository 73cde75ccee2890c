use Rattle.std.proofs.Common.{◌≡◌, ◌<◌, length, inl, inr, refl, ap, arith, sym, subst, ◌∙◌, true≢false}
use Rattle.tp_record.specs.declared.entries.Ask.TheVariants as ask
use Rattle.tp_record.specs.declared.entries.Did.TheVariants as did
use Rattle.tp_record.specs.Fields.{queue}
use Rattle.std.specs.Prelude.{All}
use Rattle.tp_machine.specs.Answers.{HandsBack, IsPaidAt}
use Rattle.tp_book.specs.BookView.{state_of}
use Rattle.tp_book.proofs.Forgetting.{all_history}
use Rattle.tp_pool_holds.specs.Passes.{AddsStep}
use Rattle.tp_pool_holds.proofs.Adding.{adds_step, refusal}
use Rattle.tp_pool_holds.proofs.Moments.{known_at}
use Rattle.tp_pool_holds.proofs.Receipts.{later_none, shown_later}
use Rattle.tp_pool_holds.proofs.Stops.{length_listed, made_at}
use Rattle.tp_pool_holds.proofs.locked.Locked.stop.Goals as goal

pub returns-in-Ok-step-clause-holds : goal.returns-in-Ok-step-clause-holds
returns-in-Ok-step-clause-holds g c = (c.in-Ok-step.handed.items, c.in-Ok-step.ensures.holds, c.listed.ensures)

pub returns-in-Ok-step-clause-stops : goal.returns-in-Ok-step-clause-stops
returns-in-Ok-step-clause-stops g c =
    let stop = c.in-Ok-step.ensures in
    let handed = c.in-Ok-step.handed.items in
    let at = made_at (g.R.Recorder.terms g.G.PoolNaming.config) c.args.pass.now.number c.args.pass.now.front ask.Stop (did.Stop (length handed)) (λ old new. HandsBack old new handed) c.step.new.pass.front
    c.args.self.now.book stop.holds.book stop.makes stop.holds.made (stop.front.0 ∙ all_history g.R.Recorder.RECEIPTS stop.holds.book c.step.new.self.book _ stop.holds.forgets_gone) in record {
      handed = handed;
      makes = stop.makes;
      order = stop.says.0 ∙ ap (queue (g.R.Recorder.terms g.G.PoolNaming.config)) at;
      paid = subst (λ h. All (IsPaidAt h) handed) at stop.says.1;
      listed = c.listed.ensures;
    }

pub returns-in-Ok-step-clause-step : goal.returns-in-Ok-step-clause-step
returns-in-Ok-step-clause-step g c =
    subst (λ n. AddsStep (g.R.Recorder.terms g.G.PoolNaming.config) c.args.pass.now ask.Stop (did.Stop n) c.step.new.pass)
    (sym (length_listed c.in-Ok-step.handed.items c.listed.result.items c.listed.ensures))
    (adds_step (g.R.Recorder.terms g.G.PoolNaming.config) c.args.pass.now c.step.new.pass ask.Stop (did.Stop (length c.in-Ok-step.handed.items)) (λ old new. HandsBack old new c.in-Ok-step.handed.items) c.in-Ok-step.ensures.makes c.in-Ok-step.ensures.paid.0)

pub returns-in-Err-clause-refused : goal.returns-in-Err-clause-refused
returns-in-Err-clause-refused g c =
    let e = c.in-Err.ensures in
    inr (refusal (g.R.Recorder.terms g.G.PoolNaming.config) g.R.Recorder.RECEIPTS c.args.self.now.book e.stands c.step.new.pass e.front.1 e.released ask.Stop c.in-Err.error e.denies.denied tt)

pub returns-in-Err-clause-denied : goal.returns-in-Err-clause-denied
returns-in-Err-clause-denied g c = inr c.in-Err.ensures.denies.denied

pub returns-in_default-clause-refused : goal.returns-in_default-clause-refused
returns-in_default-clause-refused g c =
    let queued = ap (λ k. k.queued) c.counts-queued.ensures ∙ ap (λ v. length (state_of v.book).queue) c.self.view_is in
    let some : ¬ (c.counts-queued.result.queued ≡ 0) = λ none. true≢false (sym (c.in_default.ensures.succeeds none)) in
    inl (refl, known_at c.args.self.now.book (g.R.Recorder.terms g.G.PoolNaming.config) c.law_is_book.ensures c.show.new.pass.front (λ s. 0 < length s.queue) (ap (λ p. p.front) c.show.ensures.shown) (omega (arith, queued, some)))

pub returns-in_default-clause-unchanged : goal.returns-in_default-clause-unchanged
returns-in_default-clause-unchanged g c =
    later_none c.args.pass.now c.show.new.pass (shown_later c.args.pass.now c.show.new.pass c.args.self.now.book.history c.show.ensures.shown c.show.ensures.goes_on)
