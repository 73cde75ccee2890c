use Rattle.std.proofs.Common.{sym, ap, arith, ◌∙◌, refl}
use Rattle.std.specs.Prelude.{◌&&◌, not}
use Rattle.tp_types.specs.declared.tasks.Place.TheVariants as at
use Rattle.tp_record.specs.declared.entries.Ask.TheVariants as ask
use Rattle.tp_record.specs.declared.entries.Did.TheVariants as did
use Rattle.tp_record.specs.declared.entries.Took.TheVariants as took
use Rattle.tp_record.specs.State.{task_at, state, slot_at}
use Rattle.tp_tasks.specs.Tasks.{row_of}
use Rattle.tp_laws.proofs.Effects.Workers.Take.{take_head}
use Rattle.tp_machine_state.specs.Tied.{is_before}
use Rattle.tp_machine_state.specs.Terms.{terms}
use Rattle.tp_machine_state.proofs.Standing.{entry_here, given_here, task_here}
use Rattle.tp_machine_state.proofs.Leading.{leads_from}
use Rattle.tp_machine_workers.proofs.Falls.{falls_at_take}
use Rattle.tp_machine_workers.proofs.Waiting.{taking_row}
use Rattle.tp_slots.specs.Table.{is_awake}
use Rattle.tp_machine_workers.proofs.take.head.Goals as goal

pub count_entry-requires : goal.count_entry-requires
count_entry-requires g c =
    let old = c.args.parts.now in
    let stands = c.requires.stands in
    let d = did.Take c.args.w (took.Head c.args.t) in
    let n = c.owed_at_take.result in
    let row = taking_row old stands c.args.w.0 (given_here old stands (ask.Take c.args.w) d c.requires.fits).0 c.requires.busy in
    let entry = entry_here old stands (ask.Take c.args.w) d _ n 0 n c.requires.fits
    (λ given. falls_at_take old _ d _ stands.shows.seen.rank n 0 c.owed_at_take.ensures.owed (take_head (terms old) stands.history c.args.w c.args.t stands.legal given (stands.shows.seen.seats c.args.w.0 ∙ row))) (omega arith) c.owed_at_take.ensures.least in
    record { few = entry.0; fall = entry.1 }

pub place_task-requires : goal.place_task-requires
place_task-requires g c =
    let old = c.args.parts.now in
    let stands = c.requires.stands in
    let given = given_here old stands (ask.Take c.args.w) (did.Take c.args.w (took.Head c.args.t)) c.requires.fits in
    let there = task_here old stands c.args.t.0 at.Queued given.2 refl in
    let r = task_at (state (terms old) stands.history) c.args.t.0 in
    record { known = (r, ap (λ p. row_of p.tasks c.args.t.0) c.dequeue.ensures.rest ∙ ap (λ p. row_of p.tasks c.args.t.0) c.count_entry.ensures.rest ∙ there.0, ap (λ b. b && not r.cancelled) (sym (ap is_before there.1))) }

pub returns-clause-leads : goal.returns-clause-leads
returns-clause-leads g c =
    let old = c.args.parts.now in
    let stands = c.requires.stands in
    let d = did.Take c.args.w (took.Head c.args.t) in
    let n = c.owed_at_take.result in
    let k = c.count_entry.ensures in
    let q = c.dequeue.ensures in
    let m = c.place_task.ensures in
    let r = c.set_slot.ensures in
    let row = taking_row old stands c.args.w.0 (given_here old stands (ask.Take c.args.w) d c.requires.fits).0 c.requires.busy in
    leads_from old c.set_slot.new.self (ask.Take c.args.w) d n 0 n stands c.requires.fits
    (λ h rs legal given sh. (
      _,
      falls_at_take old _ d _ sh.seen.rank n 0 c.owed_at_take.ensures.owed (take_head (terms old) h c.args.w c.args.t legal given (sh.seen.seats c.args.w.0 ∙ row)),
      r.views _ (m.views _ (q.views _ (k.views _ sh.seen))),
    ))
    (omega arith)
    (ap terms r.rest ∙ ap terms m.rest ∙ ap terms q.rest ∙ ap terms k.rest)
    (ap (λ p. p.steps) r.rest ∙ ap (λ p. p.steps) m.rest ∙ ap (λ p. p.steps) q.rest ∙ ap (λ p. p.steps) k.rest)
    (ap (λ p. p.due) r.rest ∙ ap (λ p. p.due) m.rest ∙ ap (λ p. p.due) q.rest ∙ ap (λ p. p.due) k.rest)
    (λ tied. r.tied _ _ (m.tied _ _ (q.tied _ _ (k.tied _ _ tied))))

pub set_slot-requires-clause-slot : goal.set_slot-requires-clause-slot
set_slot-requires-clause-slot g c =
    let old = c.args.parts.now in
    let stands = c.requires.stands in
    let given = given_here old stands (ask.Take c.args.w) (did.Take c.args.w (took.Head c.args.t)) c.requires.fits in
    ap (λ p. is_awake (slot_at p.slots.slots c.args.w.0)) c.place_task.ensures.rest ∙ ap (λ p. is_awake (slot_at p.slots.slots c.args.w.0)) c.dequeue.ensures.rest ∙ ap (λ p. is_awake (slot_at p.slots.slots c.args.w.0)) c.count_entry.ensures.rest
    ∙ ap is_awake (taking_row old stands c.args.w.0 given.0 c.requires.busy)
