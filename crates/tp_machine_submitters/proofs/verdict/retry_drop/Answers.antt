use Rattle.std.proofs.Common.{◌≡◌, suc, ◌+◌, not, ◌&&◌, cond, length, Some, None, arith, refl, ap, subst, ◌∙◌}
use mathlib.Core.Path.{ap₂}
use Rattle.std.specs.Prelude.{drop, if◌then◌else◌}
use Rattle.std.proofs.lemmas.Bool.{lt-ltb}
use Rattle.tp_types.specs.declared.tasks.Fate.TheVariants as fate
use Rattle.tp_types.specs.declared.tasks.Place.TheVariants as at
use Rattle.tp_record.specs.declared.entries.Ask.TheVariants as ask
use Rattle.tp_record.specs.declared.entries.Did.TheVariants as did
use Rattle.tp_record.specs.declared.entries.Ruled.TheVariants as ruled
use Rattle.tp_record.specs.declared.rows.TaskRow.{TaskRow}
use Rattle.tp_record.specs.Left.{mark}
use Rattle.tp_record.specs.State.{state, task_at, fated, is_fate}
use Rattle.tp_laws.proofs.Model.Readings.{row_read, tasks_counted}
use Rattle.tp_tasks.specs.Tasks.{row_of}
use Rattle.tp_laws.specs.View.{view, put}
use Rattle.tp_laws.proofs.Effects.Invariants.{is_gone}
use Rattle.tp_laws.proofs.Effects.Facts.{open_row}
use Rattle.tp_laws.proofs.Effects.Submitters.Verdict.{verdict_retry_drop}
use Rattle.tp_machine_state.specs.Shows.{Views}
use Rattle.tp_machine_state.specs.Tied.{is_before}
use Rattle.tp_machine_state.specs.Terms.{terms}
use Rattle.tp_machine_state.proofs.Ties.{tied_more}
use Rattle.tp_machine_state.proofs.Standing.{given_here, task_here, placed_here, fits_accepted, rising_here}
use Rattle.tp_machine_state.proofs.Leading.{leads_by}
use Rattle.tp_machine_submitters.proofs.Retrying.{places_apart, put_other}
use Rattle.tp_machine_submitters.proofs.verdict.retry_drop.Goals as goal

pub count_rising_entry-requires : goal.count_rising_entry-requires
count_rising_entry-requires g c =
    let old = c.args.parts.now in
    let stands = c.requires.stands in
    let e = rising_here old stands (ask.Verdict c.args.t c.args.verdict) (did.Verdict c.args.t c.args.verdict (ruled.RetryDrop c.args.head)) _ 5 c.requires.accepts (verdict_retry_drop (terms old) stands.history c.args.t c.args.head c.args.verdict stands.legal) in
    let more = e.1 in
    let rise : c.rise.result ≡ 5 = c.rise.ensures.rise in
    record { few = e.0; rise = omega (arith, more, rise) }

pub finish_task-payload-requires : goal.finish_task-payload-requires
finish_task-payload-requires g c =
    let fits = fits_accepted c.args.parts.now (ask.Verdict c.args.t c.args.verdict) (did.Verdict c.args.t c.args.verdict (ruled.RetryDrop c.args.head)) c.requires.accepts in
    let old = c.args.parts.now in
    let stands = c.requires.stands in
    let u = c.args.head in
    let given = given_here old stands (ask.Verdict c.args.t c.args.verdict) (did.Verdict c.args.t c.args.verdict (ruled.RetryDrop u)) fits in
    let there = task_here old stands u.0 at.Queued given.1.3 refl in
    record {
      known = (
        task_at (state (terms old) stands.history) u.0,
        ap (λ p. row_of p.tasks u.0) c.dequeue.ensures.rest ∙ ap (λ p. row_of p.tasks u.0) c.count_rising_entry.ensures.rest ∙ there.0,
        open_row (terms old) stands.history stands.legal u.0 (ap is_gone given.1.3.1),
      );
    }

pub retry_task-requires : goal.retry_task-requires
retry_task-requires g c =
    let fits = fits_accepted c.args.parts.now (ask.Verdict c.args.t c.args.verdict) (did.Verdict c.args.t c.args.verdict (ruled.RetryDrop c.args.head)) c.requires.accepts in
    let old = c.args.parts.now in
    let stands = c.requires.stands in
    let t = c.args.t in
    let u = c.args.head in
    let s = state (terms old) stands.history in
    let given = given_here old stands (ask.Verdict t c.args.verdict) (did.Verdict t c.args.verdict (ruled.RetryDrop u)) fits in
    let there = task_here old stands t.0 at.Refused given.0 refl in
    let seen = c.finish_task-payload.ensures.views _ (c.dequeue.ensures.views _ (c.count_rising_entry.ensures.views _ stands.shows.seen)) in
    let counted = tasks_counted stands.history in
    let known = given.0.0 in
    let few = given.1.1 in
    let read = ap (λ r. r.retries) (row_read stands.history t.0 given.0.0) in
    record {
      known = (
        task_at s t.0,
        seen.rows t.0 (ap₂ (λ a b. not a && b) (placed_here old stands t.0 at.Refused given.0 refl) (lt-ltb t.0 (length s.tasks) (omega (arith, counted, known)))) ∙ ap (λ r. Some r) (put_other u.0 _ (task_at s) t.0 (places_apart stands.history t.0 u.0 at.Refused at.Queued given.0 given.1.3 (λ e. let n : ⊥ = cc in n))),
        ap is_before there.1,
        omega (arith, few, read),
      );
    }

pub returns-clause-leads : goal.returns-clause-leads
returns-clause-leads g c =
    let fits = fits_accepted c.args.parts.now (ask.Verdict c.args.t c.args.verdict) (did.Verdict c.args.t c.args.verdict (ruled.RetryDrop c.args.head)) c.requires.accepts in
    let old = c.args.parts.now in
    let t = c.args.t in
    let u = c.args.head in
    let k = c.count_rising_entry.ensures.rest in
    let q = c.dequeue.ensures.rest in
    let m = c.finish_task-payload.ensures.rest in
    let r = c.retry_task.ensures.rest in
    let due = ap (λ p. p.due) r ∙ ap (λ p. p.due) m ∙ ap (λ p. p.due) q ∙ ap (λ p. p.due) k in
    let rise : c.rise.result ≡ 5 = c.rise.ensures.rise in
    leads_by old c.retry_task.new.self (ask.Verdict t c.args.verdict) (did.Verdict t c.args.verdict (ruled.RetryDrop u)) 0 5 fits
    (λ h rs legal given sh.
    let s = mark rs (state (terms old) h) in
    let v = record (view s) {
      tasks = put u.0 (record (task_at s u.0) { place = at.Gone; ending = Some fate.Discarded }) (task_at s);
      fates = λ f. fated f s + cond (is_fate f (if (task_at s u.0).cancelled then None else Some fate.Discarded)) 1 0;
      queue = drop 1 s.queue;
    } in
    let seen = c.retry_task.ensures.views v (c.finish_task-payload.ensures.views _ (c.dequeue.ensures.views _ (c.count_rising_entry.ensures.views _ sh.seen))) in (
      _,
      verdict_retry_drop (terms old) h t u c.args.verdict legal given,
      subst {A = TaskRow} (λ x. Views c.retry_task.new.self (record v { tasks = put t.0 (record x { place = at.Looking; retries = suc x.retries }) v.tasks }))
          (put_other u.0 _ (task_at s) t.0 (places_apart h t.0 u.0 at.Refused at.Queued given.0 given.1.3 (λ e. let n : ⊥ = cc in n))) seen,
    ))
    (ap terms r ∙ ap terms m ∙ ap terms q ∙ ap terms k) (ap (λ p. p.steps) r ∙ ap (λ p. p.steps) m ∙ ap (λ p. p.steps) q ∙ ap (λ p. p.steps) k) (omega (arith, due, rise))
    (c.retry_task.ensures.tied (terms old) (suc old.steps) (c.finish_task-payload.ensures.tied (terms old) (suc old.steps) (c.dequeue.ensures.tied (terms old) (suc old.steps)
    (c.count_rising_entry.ensures.tied (terms old) (suc old.steps) (tied_more (terms old) old.steps old c.requires.stands.tied)))))
