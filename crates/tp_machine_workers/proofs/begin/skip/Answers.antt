use Rattle.std.proofs.Common.{◌-◌, true, sym, ap, arith, ◌∙◌, refl}
use Rattle.std.specs.Prelude.{◌&&◌, not}
use Rattle.tp_types.specs.declared.tasks.Place.TheVariants as at
use Rattle.tp_record.specs.declared.entries.Ask.TheVariants as ask
use Rattle.tp_record.specs.declared.entries.Did.TheVariants as did
use Rattle.tp_record.specs.declared.entries.Started.TheVariants as started
use Rattle.tp_record.specs.State.{task_at, state, slot_at}
use Rattle.tp_tasks.specs.Tasks.{row_of}
use Rattle.tp_laws.proofs.Effects.Workers.Begin.{begin_skip}
use Rattle.tp_machine_state.specs.Tied.{is_before}
use Rattle.tp_machine_state.specs.Terms.{terms}
use Rattle.tp_machine_state.proofs.Standing.{entry_here, given_here, task_here, cancelled_here, seat_here}
use Rattle.tp_machine_state.proofs.Few.{few_completions}
use Rattle.tp_machine_state.proofs.Leading.{leads_from}
use Rattle.tp_machine_workers.proofs.Falls.{rises_at_take}
use Rattle.tp_slots.specs.Table.{is_awake}
use Rattle.tp_machine_workers.proofs.begin.skip.Goals as goal

pub count_entry-requires : goal.count_entry-requires
count_entry-requires g c =
    let old = c.args.parts.now in
    let stands = c.requires.stands in
    let d = did.Begin c.args.w (started.Skip c.args.t) in
    let n = c.owed_at_take.result in
    let small = c.owed_at_take.ensures.bound in
    let entry = entry_here old stands (ask.Begin c.args.w) d _ 6 n (6 - n) c.requires.fits
    (λ given. rises_at_take old _ d _ stands.shows.seen.rank n 6 c.owed_at_take.ensures.owed (begin_skip (terms old) stands.history c.args.w c.args.t stands.legal given)) (omega (arith, small)) (omega (arith, small)) in
    record { few = entry.0; fall = entry.1 }

pub place_task-requires : goal.place_task-requires
place_task-requires g c =
    let old = c.args.parts.now in
    let stands = c.requires.stands in
    let given = given_here old stands (ask.Begin c.args.w) (did.Begin c.args.w (started.Skip c.args.t)) c.requires.fits in
    let there = task_here old stands c.args.t.0 (at.Taken c.args.w) given.1 refl in
    let dead = cancelled_here old stands c.args.t.0 true given.1.0 given.2 in
    record { known = (task_at (state (terms old) stands.history) c.args.t.0, ap (λ p. row_of p.tasks c.args.t.0) c.count_entry.ensures.rest ∙ there.0, sym (λ i. is_before (there.1 i) && not (dead i))) }

pub count_completion-requires : goal.count_completion-requires
count_completion-requires g c =
    let old = c.args.parts.now in
    let given = given_here old c.requires.stands (ask.Begin c.args.w) (did.Begin c.args.w (started.Skip c.args.t)) c.requires.fits in
    let few = few_completions old c.requires.stands c.args.t.0 (at.Taken c.args.w) given.1 refl in
    let same = ap (λ p. p.completions) c.set_slot.ensures.rest ∙ ap (λ p. p.completions) c.place_task.ensures.rest ∙ ap (λ p. p.completions) c.count_entry.ensures.rest in
    omega (arith, few, same)

pub returns-clause-leads : goal.returns-clause-leads
returns-clause-leads g c =
    let old = c.args.parts.now in
    let d = did.Begin c.args.w (started.Skip c.args.t) in
    let n = c.owed_at_take.result in
    let small = c.owed_at_take.ensures.bound in
    let k = c.count_entry.ensures in
    let m = c.place_task.ensures in
    let r = c.set_slot.ensures in
    let e = c.count_completion.ensures in
    leads_from old c.count_completion.new.self (ask.Begin c.args.w) d 6 n (6 - n) c.requires.stands c.requires.fits
    (λ h rs legal given sh. (
      _,
      rises_at_take old _ d _ sh.seen.rank n 6 c.owed_at_take.ensures.owed (begin_skip (terms old) h c.args.w c.args.t legal given),
      e.views _ (r.views _ (m.views _ (k.views _ sh.seen))),
    ))
    (omega (arith, small))
    (ap terms e.rest ∙ ap terms r.rest ∙ ap terms m.rest ∙ ap terms k.rest)
    (ap (λ p. p.steps) e.rest ∙ ap (λ p. p.steps) r.rest ∙ ap (λ p. p.steps) m.rest ∙ ap (λ p. p.steps) k.rest)
    (ap (λ p. p.due) e.rest ∙ ap (λ p. p.due) r.rest ∙ ap (λ p. p.due) m.rest ∙ ap (λ p. p.due) k.rest)
    (λ tied. e.tied _ _ (r.tied _ _ (m.tied _ _ (k.tied _ _ tied))))

pub set_slot-requires-clause-slot : goal.set_slot-requires-clause-slot
set_slot-requires-clause-slot g c =
    let old = c.args.parts.now in
    let stands = c.requires.stands in
    let given = given_here old stands (ask.Begin c.args.w) (did.Begin c.args.w (started.Skip c.args.t)) c.requires.fits in
    ap (λ p. is_awake (slot_at p.slots.slots c.args.w.0)) c.place_task.ensures.rest ∙ ap (λ p. is_awake (slot_at p.slots.slots c.args.w.0)) c.count_entry.ensures.rest
    ∙ ap is_awake (seat_here old stands c.args.w.0 _ _ given.0)
