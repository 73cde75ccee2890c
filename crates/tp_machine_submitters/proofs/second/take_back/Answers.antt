use Rattle.std.proofs.Common.{suc, refl, sym, ap, subst, ◌∙◌, arith}
use Rattle.std.specs.List.{Contains}
use Rattle.tp_record.specs.declared.entries.Ask.TheVariants as ask
use Rattle.tp_record.specs.declared.entries.Did.TheVariants as did
use Rattle.tp_record.specs.declared.entries.Seconded.TheVariants as seconded
use Rattle.tp_queue.specs.Queues.{waiting_of}
use Rattle.tp_laws.proofs.Model.Places.{queued_in}
use Rattle.tp_laws.proofs.Effects.Submitters.Second.{second_back}
use Rattle.tp_types.specs.declared.tasks.Place.TheVariants as at
use Rattle.tp_record.specs.State.{task_at, state}
use Rattle.tp_tasks.specs.Tasks.{row_of}
use Rattle.tp_machine_state.specs.Tied.{is_before}
use Rattle.tp_machine_state.specs.Shows.{numbers}
use Rattle.tp_machine_state.specs.Terms.{terms}
use Rattle.tp_machine_state.proofs.Ties.{tied_more}
use Rattle.tp_machine_state.proofs.Standing.{entry_here, given_here, task_here}
use Rattle.tp_machine_state.proofs.Leading.{leads_from}
use Rattle.tp_machine_submitters.proofs.second.take_back.Goals as goal

pub count_entry-requires : goal.count_entry-requires
count_entry-requires g c =
    let old = c.args.parts.now in
    let stands = c.requires.stands in
    let e = entry_here old stands (ask.Second c.args.t) (did.Second c.args.t seconded.Back) _ 8 0 8 c.requires.fits (λ given. second_back (terms old) stands.history c.args.t stands.legal given) refl (omega arith) in
    record { few = e.0; fall = e.1 }

pub unqueue-requires : goal.unqueue-requires
unqueue-requires g c =
    let old = c.args.parts.now in
    let stands = c.requires.stands in
    let given = given_here old stands (ask.Second c.args.t) (did.Second c.args.t seconded.Back) c.requires.fits in
    record {
      queued = subst (λ xs. Contains xs c.args.t.0) (stands.shows.seen.queued ∙ sym (ap (λ p. numbers (waiting_of p.queue).items) c.count_entry.ensures.rest)) (queued_in (terms old) stands.history c.args.t.0 given.0.1);
      keyed = (c.count_entry.ensures.tied (terms old) (suc old.steps) (tied_more (terms old) old.steps old stands.tied)).keyed;
    }

pub returns-clause-leads : goal.returns-clause-leads
returns-clause-leads g c =
    let old = c.args.parts.now in
    let k = c.count_entry.ensures in
    let q = c.unqueue.ensures in
    let m = c.return_task.ensures in
    leads_from old c.return_task.new.self (ask.Second c.args.t) (did.Second c.args.t seconded.Back) 8 0 8 c.requires.stands c.requires.fits
    (λ h rs legal given sh. (_, second_back (terms old) h c.args.t legal given, m.views _ (q.views _ (k.views _ sh.seen))))
    refl
    (ap terms m.rest ∙ ap terms q.rest ∙ ap terms k.rest)
    (ap (λ p. p.steps) m.rest ∙ ap (λ p. p.steps) q.rest ∙ ap (λ p. p.steps) k.rest)
    (ap (λ p. p.due) m.rest ∙ ap (λ p. p.due) q.rest ∙ ap (λ p. p.due) k.rest)
    (λ tied. m.tied _ _ (q.tied _ _ (k.tied _ _ tied)))

pub return_task-requires : goal.return_task-requires
return_task-requires g c =
    let old = c.args.parts.now in
    let stands = c.requires.stands in
    let given = given_here old stands (ask.Second c.args.t) (did.Second c.args.t seconded.Back) c.requires.fits in
    let there = task_here old stands c.args.t.0 at.Queued given.0 refl in
    record {
      known = (
        task_at (state (terms old) stands.history) c.args.t.0,
        ap (λ p. row_of p.tasks c.args.t.0) c.unqueue.ensures.rest ∙ ap (λ p. row_of p.tasks c.args.t.0) c.count_entry.ensures.rest ∙ there.0,
        ap is_before there.1,
      );
    }
