use Rattle.std.proofs.Common.{sym, subst}
use Rattle.std.specs.Prelude.{IfOk}
use Rattle.std.proofs.lemmas.Result.{IfOk-weaker}
use Rattle.tp_record.specs.declared.entries.Ask.TheVariants as ask
use Rattle.tp_record.specs.declared.entries.Did.TheVariants as did
use Rattle.tp_machine_state.specs.Payloads.{Keeps}
use Rattle.tp_book.specs.BookView.{Advances}
use Rattle.tp_pool_holds.specs.Holds.{Holds}
use Rattle.tp_pool_holds.specs.Roused.{IsRoused}
use Rattle.tp_pool_holds.proofs.locked.Locked.open.Goals as goal

pub returns-clause-made : goal.returns-clause-made
returns-clause-made g c =
    let by = g.A.Payer.number c.args.pass.now in
    let old = c.args.self.now in
    let new = c.step-opened.new.self in
    let w = c.args.w in
    subst (λ v. IfOk c.step-opened.result (λ x. Advances old.book v.book by (ask.Open w) (did.Open w x) Keeps)) (sym c.self.view_is)
    (IfOk-weaker c.step-opened.result
    (λ x. Holds g.R.Recorder.RECEIPTS old new by (ask.Open w) (did.Open w x) Keeps)
    (λ x. Advances old.book new.book by (ask.Open w) (did.Open w x) Keeps)
    (λ x made. subst (λ b. Advances old.book b by (ask.Open w) (did.Open w x) Keeps) (sym made.forgets_gone) made.made) c.step-opened.ensures.holds)

pub returns-clause-roused : goal.returns-clause-roused
returns-clause-roused g c =
    let by = g.A.Payer.number c.args.pass.now in
    let old = c.args.self.now in
    let new = c.step-opened.new.self in
    let w = c.args.w in
    subst (λ v. IfOk c.step-opened.result (λ x. IsRoused v.book old.waking v.waking (ask.Open w) (did.Open w x))) (sym c.self.view_is)
    (IfOk-weaker c.step-opened.result
    (λ x. Holds g.R.Recorder.RECEIPTS old new by (ask.Open w) (did.Open w x) Keeps)
    (λ x. IsRoused new.book old.waking new.waking (ask.Open w) (did.Open w x))
    (λ x made. made.roused) c.step-opened.ensures.holds)
