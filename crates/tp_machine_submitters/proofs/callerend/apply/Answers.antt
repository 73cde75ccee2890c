use Rattle.std.proofs.Common.{◌≡◌, ◌-◌, suc, refl, arith, ap, ◌∙◌}
use Rattle.tp_types.specs.declared.tasks.Place.TheVariants as at
use Rattle.tp_record.specs.declared.entries.Ask.TheVariants as ask
use Rattle.tp_record.specs.declared.entries.Did.TheVariants as did
use Rattle.tp_record.specs.State.{state, task_at}
use Rattle.tp_tasks.specs.Tasks.{row_of}
use Rattle.tp_laws.proofs.Effects.Invariants.{is_gone}
use Rattle.tp_laws.proofs.Effects.Facts.{open_row}
use Rattle.tp_laws.proofs.Effects.Submitters.CallerEnd.{caller_end}
use Rattle.tp_machine_state.specs.Tied.{is_before}
use Rattle.tp_machine_state.specs.Terms.{terms}
use Rattle.tp_machine_state.proofs.Ties.{tied_more}
use Rattle.tp_machine_state.proofs.Standing.{entry_here, given_here, task_here, fall_here}
use Rattle.tp_machine_state.proofs.Leading.{leads_by}
use Rattle.tp_machine_submitters.proofs.callerend.apply.Goals as goal

pub count_entry-requires : goal.count_entry-requires
count_entry-requires g c =
    let old = c.args.parts.now in
    let stands = c.requires.stands in
    let here = entry_here old stands (ask.CallerEnd c.args.t c.args.outcome) (did.CallerEnd c.args.t c.args.outcome) _ 1 0 1 c.requires.fits (caller_end (terms old) stands.history c.args.t c.args.outcome stands.legal) (omega arith) (omega arith) in
    record { few = here.0; fall = here.1 }

pub complete_task-requires-clause-known : goal.complete_task-requires-clause-known
complete_task-requires-clause-known g c =
    let old = c.args.parts.now in
    let stands = c.requires.stands in
    let given = given_here old stands (ask.CallerEnd c.args.t c.args.outcome) (did.CallerEnd c.args.t c.args.outcome) c.requires.fits in
    let there = task_here old stands c.args.t.0 at.Caller given refl in
    (task_at (state (terms old) stands.history) c.args.t.0, ap (λ p. row_of p.tasks c.args.t.0) c.count_entry.ensures.rest ∙ there.0, open_row (terms old) stands.history stands.legal c.args.t.0 (ap is_gone given.1), ap is_before there.1)

pub returns-clause-leads : goal.returns-clause-leads
returns-clause-leads g c =
    let old = c.args.parts.now in
    let stands = c.requires.stands in
    let t = c.args.t in
    let o = c.args.outcome in
    let k = c.count_entry.ensures.rest in
    let m = c.complete_task.ensures.rest in
    let here = fall_here old stands (ask.CallerEnd t o) (did.CallerEnd t o) _ 1 0 1 c.requires.fits (caller_end (terms old) stands.history t o stands.legal) (omega arith) in
    let due : c.complete_task.new.self.due ≡ old.due - 1 = cc in
    leads_by old c.complete_task.new.self (ask.CallerEnd t o) (did.CallerEnd t o) 1 0 c.requires.fits
    (λ h rs legal given sh. (_, caller_end (terms old) h t o legal given, c.complete_task.ensures.views _ (c.count_entry.ensures.views _ sh.seen)))
    (ap terms m ∙ ap terms k) (cc) (omega (arith, due, here))
    (c.complete_task.ensures.tied (terms old) (suc old.steps) (c.count_entry.ensures.tied (terms old) (suc old.steps) (tied_more (terms old) old.steps old stands.tied)))
