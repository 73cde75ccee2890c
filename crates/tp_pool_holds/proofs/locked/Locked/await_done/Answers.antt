use Rattle.std.proofs.Common.{◌≡◌, ◌≢◌, inl, inr, refl, ap, rules, sym, subst, ◌∙◌}
use Rattle.tp_types.specs.declared.refusals.PoolError.TheVariants.{NotThere}
use Rattle.tp_record.specs.declared.entries.Ask.TheVariants as ask
use Rattle.tp_record.specs.declared.entries.Did.TheVariants as did
use Rattle.tp_machine_state.specs.Payloads.{Keeps}
use Rattle.tp_record.specs.State.{state}
use Rattle.tp_machine.specs.Readings.{HasOpen}
use Rattle.tp_machine.specs.Steps.{IsRefusedAt}
use Rattle.tp_book.specs.BookView.{state_of}
use Rattle.tp_pool_holds.proofs.Adding.{adds_step, refusal}
use Rattle.tp_pool_holds.proofs.Refusals.{unnamed}
use Rattle.tp_pool_holds.proofs.locked.Locked.await_done.Goals as goal

pub returns-then-ne-clause-refused : goal.returns-then-ne-clause-refused
returns-then-ne-clause-refused g c =
    let e = c.in-Err.ensures in
    let other : c.in-Err.error ≢ NotThere = search rules in
    let at = unnamed g.R.Recorder.RECEIPTS (g.R.Recorder.terms g.G.PoolNaming.config) c.step.new.pass (ask.TakeDone c.args.group) c.in-Err.error refl (refusal (g.R.Recorder.terms g.G.PoolNaming.config) g.R.Recorder.RECEIPTS c.args.self.now.book e.stands c.step.new.pass e.front.1 e.released (ask.TakeDone c.args.group) c.in-Err.error e.denies.denied tt) in
    record { legal = at.legal; holds = inr (other, at.holds) }

pub returns-then-not-open-clause-refused : goal.returns-then-not-open-clause-refused
returns-then-not-open-clause-refused g c =
    let config = (g.R.Recorder.terms g.G.PoolNaming.config) in
    let book = c.self.inside.book in
    let e = c.in-Err.ensures in
    let there : c.in-Err.error ≡ NotThere = search rules in
    let at = unnamed g.R.Recorder.RECEIPTS (g.R.Recorder.terms g.G.PoolNaming.config) c.step.new.pass (ask.TakeDone c.args.group) c.in-Err.error refl (refusal (g.R.Recorder.terms g.G.PoolNaming.config) g.R.Recorder.RECEIPTS c.args.self.now.book e.stands c.step.new.pass e.front.1 e.released (ask.TakeDone c.args.group) c.in-Err.error e.denies.denied tt) in
    let shut : ¬ HasOpen c.args.group (state_of book) = search rules in
    let known : c.args.self.now.book.history ≡ book.history = ap (λ v. v.book.history) (sym c.self.view_is) in
    let none = subst (λ k. ¬ HasOpen c.args.group (state k book.history)) c.self.invariant.0 shut in record {
      legal = at.legal;
      holds = inl (
        refl,
        subst (λ e. IsRefusedAt config (state config c.step.new.pass.front) (ask.TakeDone c.args.group) e) there at.holds,
        subst (λ h. ¬ HasOpen c.args.group (state config h)) (sym (c.in-Err.ensures.front.1 ∙ known)) none,
      );
    }

pub returns-clause-open : goal.returns-clause-open
returns-clause-open g c =
    let e = c.in-Err.ensures in
    let config = (g.R.Recorder.terms g.G.PoolNaming.config) in
    let book = c.self.inside.book in
    let there : c.in-Err.error ≡ NotThere = search rules in
    let at = unnamed g.R.Recorder.RECEIPTS config c.step.new.pass (ask.TakeDone c.args.group) c.in-Err.error refl (refusal config g.R.Recorder.RECEIPTS c.args.self.now.book e.stands c.step.new.pass e.front.1 e.released (ask.TakeDone c.args.group) c.in-Err.error e.denies.denied tt) in
    let opened : HasOpen c.args.group (state_of book) = search rules in
    let known : c.args.self.now.book.history ≡ book.history = ap (λ v. v.book.history) (sym c.self.view_is) in
    let some = subst (λ k. HasOpen c.args.group (state k book.history)) c.self.invariant.0 opened in record {
      legal = at.legal;
      holds = (
        subst (λ h. HasOpen c.args.group (state config h)) (sym (e.front.1 ∙ known)) some,
        subst (λ x. IsRefusedAt config (state config c.step.new.pass.front) (ask.TakeDone c.args.group) x) there at.holds,
      );
    }

pub returns-in-Ok-clause-step : goal.returns-in-Ok-clause-step
returns-in-Ok-clause-step g c =
    adds_step (g.R.Recorder.terms g.G.PoolNaming.config) c.args.pass.now c.step.new.pass (ask.TakeDone c.args.group) (did.TakeDone c.args.group c.in-Ok.t) Keeps c.in-Ok.ensures.makes c.in-Ok.ensures.paid.0
