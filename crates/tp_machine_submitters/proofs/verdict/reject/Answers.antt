use Rattle.std.proofs.Common.{suc, refl, arith, ap, ◌∙◌}
use Rattle.tp_types.specs.declared.tasks.Place.TheVariants as at
use Rattle.tp_record.specs.declared.entries.Ask.TheVariants as ask
use Rattle.tp_record.specs.declared.entries.Did.TheVariants as did
use Rattle.tp_record.specs.declared.entries.Ruled.TheVariants as ruled
use Rattle.tp_record.specs.State.{state, task_at}
use Rattle.tp_tasks.specs.Tasks.{row_of}
use Rattle.tp_laws.proofs.Effects.Invariants.{is_gone}
use Rattle.tp_laws.proofs.Effects.Facts.{open_row}
use Rattle.tp_laws.proofs.Effects.Submitters.Verdict.{verdict_rejected}
use Rattle.tp_machine_state.proofs.Ties.{tied_more}
use Rattle.tp_machine_state.proofs.Standing.{given_here, task_here, fits_accepted, fall_here, falling_here}
use Rattle.tp_machine_state.proofs.Leading.{leads_by}
use Rattle.tp_machine_state.specs.Terms.{terms}
use Rattle.tp_machine_submitters.proofs.verdict.reject.Goals as goal

pub count_entry-requires : goal.count_entry-requires
count_entry-requires g c =
    let old = c.args.parts.now in
    let stands = c.requires.stands in
    let here = falling_here old stands (ask.Verdict c.args.t c.args.verdict) (did.Verdict c.args.t c.args.verdict ruled.Rejected) _ 2 0 2 c.requires.accepts (verdict_rejected (terms old) stands.history c.args.t c.args.verdict stands.legal) (omega arith) in
    record { few = here.0; fall = here.1 }

pub finish_task-requires : goal.finish_task-requires
finish_task-requires g c =
    let fits = fits_accepted c.args.parts.now (ask.Verdict c.args.t c.args.verdict) (did.Verdict c.args.t c.args.verdict ruled.Rejected) c.requires.accepts in
    let old = c.args.parts.now in
    let stands = c.requires.stands in
    let given = given_here old stands (ask.Verdict c.args.t c.args.verdict) (did.Verdict c.args.t c.args.verdict ruled.Rejected) fits in
    let there = task_here old stands c.args.t.0 at.Refused given.0 refl in
    record { known = (task_at (state (terms old) stands.history) c.args.t.0, ap (λ p. row_of p.tasks c.args.t.0) c.count_entry.ensures.rest ∙ there.0, open_row (terms old) stands.history stands.legal c.args.t.0 (ap is_gone given.0.1)) }

pub returns-clause-leads : goal.returns-clause-leads
returns-clause-leads g c =
    let fits = fits_accepted c.args.parts.now (ask.Verdict c.args.t c.args.verdict) (did.Verdict c.args.t c.args.verdict ruled.Rejected) c.requires.accepts in
    let old = c.args.parts.now in
    let stands = c.requires.stands in
    let t = c.args.t in
    let a = ask.Verdict t c.args.verdict in
    let d = did.Verdict t c.args.verdict ruled.Rejected in
    let k = c.count_entry.ensures.rest in
    let m = c.finish_task.ensures.rest in
    let here = fall_here old stands a d _ 2 0 2 fits (verdict_rejected (terms old) stands.history t c.args.verdict stands.legal) (omega arith) in
    let due = ap (λ p. p.due) m ∙ ap (λ p. p.due) k in
    leads_by old c.finish_task.new.self a d 2 0 fits
    (λ h rs legal given sh. (_, verdict_rejected (terms old) h t c.args.verdict legal given, c.finish_task.ensures.views _ (c.count_entry.ensures.views _ sh.seen)))
    (ap terms m ∙ ap terms k) (ap (λ p. p.steps) m ∙ ap (λ p. p.steps) k) (omega (arith, due, here))
    (c.finish_task.ensures.tied (terms old) (suc old.steps) (c.count_entry.ensures.tied (terms old) (suc old.steps) (tied_more (terms old) old.steps old stands.tied)))
