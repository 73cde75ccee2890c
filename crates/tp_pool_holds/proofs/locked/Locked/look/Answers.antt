use Rattle.std.proofs.Common.{ap, subst}
use Rattle.tp_record.specs.declared.entries.Ask.TheVariants as ask
use Rattle.tp_record.specs.declared.entries.Did.TheVariants as did
use Rattle.tp_machine_state.specs.Payloads.{Keeps}
use Rattle.tp_book.specs.BookView.{IsDenied}
use Rattle.tp_pool_holds.specs.Holds.{Holds}
use Rattle.tp_pool_holds.proofs.Adding.{adds_step}
use Rattle.tp_pool_holds.proofs.Receipts.{later_none, step_behind, shown_later}
use Rattle.tp_pool_holds.proofs.locked.Locked.look.Goals as goal

pub returns-in-Ok-clause-tidied : goal.returns-in-Ok-clause-tidied
returns-in-Ok-clause-tidied g c =
    λ _. step_behind (g.R.Recorder.terms g.G.PoolNaming.config) c.args.pass.now c.show.new.pass c.step.new.pass ask.Tidy did.Tidy
    (later_none c.args.pass.now c.show.new.pass (shown_later c.args.pass.now c.show.new.pass c.args.self.now.book.history c.show.ensures.shown c.show.ensures.goes_on))
    (adds_step (g.R.Recorder.terms g.G.PoolNaming.config) c.show.new.pass c.step.new.pass ask.Tidy did.Tidy Keeps c.in-Ok.ensures.makes c.in-Ok.ensures.paid.0)

pub returns-clause-untidy : goal.returns-clause-untidy
returns-clause-untidy g c = λ _. (c.in-Err.field-0, subst (λ v. IsDenied g.R.Recorder.RECEIPTS v.book ask.Tidy c.in-Err.field-0) c.show.ensures.same c.in-Err.ensures.denies.denied)

pub returns-in-Ok-clause-holds : goal.returns-in-Ok-clause-holds
returns-in-Ok-clause-holds g c =
    λ _. subst (λ v. Holds g.R.Recorder.RECEIPTS v c.step.new.self c.args.pass.now.number ask.Tidy did.Tidy Keeps) c.show.ensures.same
    (subst (λ n. Holds g.R.Recorder.RECEIPTS c.show.new.self c.step.new.self n ask.Tidy did.Tidy Keeps) (ap (λ p. p.number) c.show.ensures.shown) c.in-Ok.ensures.holds)
