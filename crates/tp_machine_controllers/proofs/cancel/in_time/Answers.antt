use Rattle.std.proofs.Common.{true, suc, arith, ap, ◌∙◌, Some}
use Rattle.tp_record.specs.declared.entries.Ask.TheVariants as ask
use Rattle.tp_record.specs.declared.entries.Did.TheVariants as did
use Rattle.tp_laws.proofs.Effects.Controllers.Cancel.{cancel}
use Rattle.tp_machine_state.proofs.Ties.{tied_more}
use Rattle.tp_machine_state.proofs.Standing.{few_steps, given_here, row_here, named_here, fits_accepted}
use Rattle.tp_machine_state.proofs.Leading.{leads_by}
use Rattle.std.specs.Prelude.{if◌then◌else◌}
use Rattle.tp_record.specs.Fields.{ending}
use Rattle.tp_record.specs.State.{state, task_at, fate_of}
use Rattle.tp_laws.proofs.Model.Readings.{row_read}
use Rattle.tp_tasks.specs.Tasks.{row_of}
use Rattle.tp_types.specs.declared.tasks.Fate.TheVariants as fate
use Rattle.tp_machine_state.specs.Terms.{terms}
use Rattle.tp_machine_controllers.proofs.cancel.in_time.Goals as goal

pub count_entry-requires-clause-few : goal.count_entry-requires-clause-few
count_entry-requires-clause-few g c = few_steps c.args.parts.now c.requires.stands (ask.Cancel c.args.t c.args.flag) (did.Cancel c.args.t c.args.flag true) c.requires.accepts

pub returns-clause-leads : goal.returns-clause-leads
returns-clause-leads g c =
    let fits = fits_accepted c.args.parts.now (ask.Cancel c.args.t c.args.flag) (did.Cancel c.args.t c.args.flag true) c.requires.accepts in
    let old = c.args.parts.now in
    let k = c.count_entry.ensures in
    let m = c.cancel_task.ensures in
    let due = ap (λ p. p.due) m.rest ∙ ap (λ p. p.due) k.rest in
    leads_by old c.cancel_task.new.self (ask.Cancel c.args.t c.args.flag) (did.Cancel c.args.t c.args.flag true) 0 0 fits
    (λ h rs legal given sh. (_, cancel (terms old) h c.args.t c.args.flag legal given, m.views _ (k.views _ sh.seen)))
    (ap terms m.rest ∙ ap terms k.rest) (ap (λ p. p.steps) m.rest ∙ ap (λ p. p.steps) k.rest) (omega (arith, due))
    (m.tied (terms old) (suc old.steps) (k.tied (terms old) (suc old.steps) (tied_more (terms old) old.steps old c.requires.stands.tied)))

pub cancel_task-requires : goal.cancel_task-requires
cancel_task-requires g c =
    let fits = fits_accepted c.args.parts.now (ask.Cancel c.args.t c.args.flag) (did.Cancel c.args.t c.args.flag true) c.requires.accepts in
    let old = c.args.parts.now in
    let stands = c.requires.stands in
    let h = stands.history in
    let a = ask.Cancel c.args.t c.args.flag in
    let d = did.Cancel c.args.t c.args.flag true in
    let given = given_here old stands a d fits in
    let row = row_here old stands c.args.t.0 given.0 (named_here old stands a d fits) in
    record {
      known = (
        task_at (state (terms old) h) c.args.t.0,
        ap (λ p. row_of p.tasks c.args.t.0) c.count_entry.ensures.rest ∙ row,
        ap fate_of (row_read h c.args.t.0 given.0) ∙ ap (λ b. if b then Some fate.Cancelled else ending h c.args.t.0) given.2 ∙ given.3,
      );
    }
