use Rattle.std.proofs.Common.{false, None, suc, arith, sym, ap, subst}
use Rattle.tp_record.specs.declared.entries.Ask.TheVariants as ask
use Rattle.tp_record.specs.declared.entries.Did.TheVariants as did
use Rattle.tp_laws.proofs.Effects.Controllers.Cancel.{cancel_late}
use Rattle.tp_machine_state.proofs.Ties.{tied_more}
use Rattle.tp_machine_state.proofs.Standing.{few_steps, fits_accepted}
use Rattle.tp_machine_state.proofs.Leading.{leads_by}
use Rattle.tp_machine_state.specs.Payloads.{HandsOut}
use Rattle.tp_machine_state.specs.Terms.{terms}
use Rattle.tp_machine_controllers.proofs.Cancels.{late_unpaid, hands_out_none}
use Rattle.tp_machine_controllers.proofs.cancel.late.Goals as goal

pub count_entry-requires-clause-few : goal.count_entry-requires-clause-few
count_entry-requires-clause-few g c = few_steps c.args.parts.now c.requires.stands (ask.Cancel c.args.t c.args.flag) (did.Cancel c.args.t c.args.flag false) c.requires.accepts

pub returns-clause-leads : goal.returns-clause-leads
returns-clause-leads g c =
    let fits = fits_accepted c.args.parts.now (ask.Cancel c.args.t c.args.flag) (did.Cancel c.args.t c.args.flag false) c.requires.accepts in
    let old = c.args.parts.now in
    let k = c.count_entry.ensures in
    let due = ap (λ p. p.due) k.rest in
    leads_by old c.count_entry.new.self (ask.Cancel c.args.t c.args.flag) (did.Cancel c.args.t c.args.flag false) 0 0 fits
    (λ h rs legal given sh. (_, cancel_late (terms old) h c.args.t c.args.flag legal given, k.views _ sh.seen))
    (ap terms k.rest) (ap (λ p. p.steps) k.rest) (omega (arith, due))
    (k.tied (terms old) (suc old.steps) (tied_more (terms old) old.steps old c.requires.stands.tied))

pub returns-clause-payloads : goal.returns-clause-payloads
returns-clause-payloads g c =
    let fits = fits_accepted c.args.parts.now (ask.Cancel c.args.t c.args.flag) (did.Cancel c.args.t c.args.flag false) c.requires.accepts in
    let old = c.args.parts.now in
    let none = late_unpaid old c.requires.stands c.args.t c.args.flag fits in
    let P : _ → Type 0 = λ x. HandsOut old.tasks x.tasks c.args.t.0 None in
    subst P (sym c.count_entry.ensures.rest) (hands_out_none old.tasks c.args.t.0 none)
