use Rattle.std.proofs.Common.{false, refl, ap, ◌∙◌, arith}
use Rattle.std.specs.Prelude.{is_some, not, ◌&&◌}
use Rattle.tp_types.specs.declared.tasks.Place.TheVariants as at
use Rattle.tp_record.specs.declared.entries.Ask.TheVariants as ask
use Rattle.tp_record.specs.declared.entries.Did.TheVariants as did
use Rattle.tp_record.specs.declared.entries.Started.TheVariants as started
use Rattle.tp_record.specs.State.{task_at, state, slot_at}
use Rattle.tp_tasks.specs.Tasks.{row_of, payload_of}
use Rattle.tp_laws.proofs.Effects.Workers.Begin.{begin_run}
use Rattle.tp_machine_state.specs.Tied.{is_before, waits}
use Rattle.tp_machine_state.specs.Terms.{terms}
use Rattle.tp_machine_state.proofs.Standing.{entry_here, given_here, task_here, cancelled_here, seat_here}
use Rattle.tp_machine_state.proofs.Leading.{leads_from}
use Rattle.tp_slots.specs.Table.{is_awake}
use Rattle.tp_machine_workers.proofs.begin.run.Goals as goal

pub count_entry-requires : goal.count_entry-requires
count_entry-requires g c =
    let old = c.args.parts.now in
    let stands = c.requires.stands in
    let entry = entry_here old stands (ask.Begin c.args.w) (did.Begin c.args.w (started.Run c.args.t)) _ 1 0 1 c.requires.fits (λ given. begin_run (terms old) stands.history c.args.w c.args.t stands.legal given) refl (omega arith) in
    record { few = entry.0; fall = entry.1 }

pub begin_task-payload-requires : goal.begin_task-payload-requires
begin_task-payload-requires g c =
    let old = c.args.parts.now in
    let stands = c.requires.stands in
    let given = given_here old stands (ask.Begin c.args.w) (did.Begin c.args.w (started.Run c.args.t)) c.requires.fits in
    let there = task_here old stands c.args.t.0 (at.Taken c.args.w) given.1 refl in
    let alive = cancelled_here old stands c.args.t.0 false given.1.0 given.2 in
    record {
      known = (task_at (state (terms old) stands.history) c.args.t.0, ap (λ p. row_of p.tasks c.args.t.0) c.count_entry.ensures.rest ∙ there.0);
      paid = ap (λ p. is_some (payload_of p.tasks c.args.t.0)) c.count_entry.ensures.rest ∙ stands.tied.payloads c.args.t.0 ∙ ap waits there.0 ∙ (λ i. is_before (there.1 i) && not (alive i));
      begun = refl;
    }

pub returns-clause-leads : goal.returns-clause-leads
returns-clause-leads g c =
    let old = c.args.parts.now in
    let k = c.count_entry.ensures in
    let m = c.begin_task-payload.ensures in
    let r = c.set_slot.ensures in
    leads_from old c.set_slot.new.self (ask.Begin c.args.w) (did.Begin c.args.w (started.Run c.args.t)) 1 0 1 c.requires.stands c.requires.fits
    (λ h rs legal given sh. (_, begin_run (terms old) h c.args.w c.args.t legal given, r.views _ (m.views _ (k.views _ sh.seen))))
    refl
    (ap terms r.rest ∙ ap terms m.rest ∙ ap terms k.rest)
    (ap (λ p. p.steps) r.rest ∙ ap (λ p. p.steps) m.rest ∙ ap (λ p. p.steps) k.rest)
    (ap (λ p. p.due) r.rest ∙ ap (λ p. p.due) m.rest ∙ ap (λ p. p.due) k.rest)
    (λ tied. r.tied _ _ (m.tied _ _ (k.tied _ _ tied)))

pub set_slot-requires-clause-slot : goal.set_slot-requires-clause-slot
set_slot-requires-clause-slot g c =
    let old = c.args.parts.now in
    let stands = c.requires.stands in
    let given = given_here old stands (ask.Begin c.args.w) (did.Begin c.args.w (started.Run c.args.t)) c.requires.fits in
    ap (λ p. is_awake (slot_at p.slots.slots c.args.w.0)) c.begin_task-payload.ensures.rest ∙ ap (λ p. is_awake (slot_at p.slots.slots c.args.w.0)) c.count_entry.ensures.rest
    ∙ ap is_awake (seat_here old stands c.args.w.0 _ _ given.0)
