use Rattle.std.proofs.Common.{◌≡◌, suc, refl, arith, ap, ◌∙◌}
use Rattle.tp_types.specs.declared.tasks.Place.TheVariants as at
use Rattle.tp_record.specs.declared.entries.Ask.TheVariants as ask
use Rattle.tp_record.specs.declared.entries.Did.TheVariants as did
use Rattle.tp_record.specs.declared.entries.Ruled.TheVariants as ruled
use Rattle.tp_record.specs.State.{state, task_at}
use Rattle.tp_laws.proofs.Model.Readings.{row_read}
use Rattle.tp_tasks.specs.Tasks.{row_of}
use Rattle.tp_laws.proofs.Effects.Submitters.Verdict.{verdict_retry}
use Rattle.tp_machine_state.specs.Tied.{is_before}
use Rattle.tp_machine_state.specs.Terms.{terms}
use Rattle.tp_machine_state.proofs.Ties.{tied_more}
use Rattle.tp_machine_state.proofs.Standing.{given_here, task_here, fits_accepted, rising_here}
use Rattle.tp_machine_state.proofs.Leading.{leads_by}
use Rattle.tp_machine_submitters.proofs.verdict.retry.Goals as goal

pub count_rising_entry-requires : goal.count_rising_entry-requires
count_rising_entry-requires g c =
    let old = c.args.parts.now in
    let stands = c.requires.stands in
    let e = rising_here old stands (ask.Verdict c.args.t c.args.verdict) (did.Verdict c.args.t c.args.verdict ruled.Retry) _ 11 c.requires.accepts (verdict_retry (terms old) stands.history c.args.t c.args.verdict stands.legal) in
    let more = e.1 in
    let rise : c.rise.result ≡ 11 = c.rise.ensures.rise in
    record { few = e.0; rise = omega (arith, more, rise) }

pub retry_task-requires : goal.retry_task-requires
retry_task-requires g c =
    let fits = fits_accepted c.args.parts.now (ask.Verdict c.args.t c.args.verdict) (did.Verdict c.args.t c.args.verdict ruled.Retry) c.requires.accepts in
    let old = c.args.parts.now in
    let stands = c.requires.stands in
    let given = given_here old stands (ask.Verdict c.args.t c.args.verdict) (did.Verdict c.args.t c.args.verdict ruled.Retry) fits in
    let there = task_here old stands c.args.t.0 at.Refused given.0 refl in
    let few = given.1.1 in
    let read = ap (λ r. r.retries) (row_read stands.history c.args.t.0 given.0.0) in
    record { known = (task_at (state (terms old) stands.history) c.args.t.0, ap (λ p. row_of p.tasks c.args.t.0) c.count_rising_entry.ensures.rest ∙ there.0, ap is_before there.1, omega (arith, few, read)) }

pub returns-clause-leads : goal.returns-clause-leads
returns-clause-leads g c =
    let fits = fits_accepted c.args.parts.now (ask.Verdict c.args.t c.args.verdict) (did.Verdict c.args.t c.args.verdict ruled.Retry) c.requires.accepts in
    let old = c.args.parts.now in
    let t = c.args.t in
    let k = c.count_rising_entry.ensures.rest in
    let m = c.retry_task.ensures.rest in
    let due = ap (λ p. p.due) m ∙ ap (λ p. p.due) k in
    let rise : c.rise.result ≡ 11 = c.rise.ensures.rise in
    leads_by old c.retry_task.new.self (ask.Verdict t c.args.verdict) (did.Verdict t c.args.verdict ruled.Retry) 0 11 fits
    (λ h rs legal given sh. (_, verdict_retry (terms old) h t c.args.verdict legal given, c.retry_task.ensures.views _ (c.count_rising_entry.ensures.views _ sh.seen)))
    (ap terms m ∙ ap terms k) (ap (λ p. p.steps) m ∙ ap (λ p. p.steps) k) (omega (arith, due, rise))
    (c.retry_task.ensures.tied (terms old) (suc old.steps) (c.count_rising_entry.ensures.tied (terms old) (suc old.steps) (tied_more (terms old) old.steps old c.requires.stands.tied)))
