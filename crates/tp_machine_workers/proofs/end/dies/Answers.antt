use Rattle.std.proofs.Common.{refl, ap, arith, ◌∙◌}
use Rattle.tp_types.specs.declared.tasks.Place.TheVariants as at
use Rattle.tp_record.specs.declared.entries.Ask.TheVariants as ask
use Rattle.tp_record.specs.declared.entries.Did.TheVariants as did
use Rattle.tp_record.specs.State.{task_at, state, slot_at}
use Rattle.tp_slots.specs.Table.{is_awake}
use Rattle.tp_tasks.specs.Tasks.{row_of}
use Rattle.tp_laws.proofs.Effects.Workers.End.{end_dies}
use Rattle.tp_machine_state.specs.Tied.{is_before}
use Rattle.tp_machine_state.specs.Terms.{terms}
use Rattle.tp_machine_state.proofs.Standing.{entry_here, given_here, seat_here, task_here, open_here}
use Rattle.tp_machine_state.proofs.Few.{few_completions}
use Rattle.tp_machine_state.proofs.Leading.{leads_from}
use Rattle.tp_machine_workers.proofs.end.dies.Goals as goal

pub count_entry-requires : goal.count_entry-requires
count_entry-requires g c =
    let old = c.args.parts.now in
    let stands = c.requires.stands in
    let o = c.args.outcome in
    let entry = entry_here old stands (ask.End c.args.w o) (did.End c.args.w c.args.t o) _ 5 4 1 c.requires.fits
    (λ given. end_dies (terms old) stands.history c.args.w c.args.t o stands.legal given (c.requires.dies _ stands.shows)) refl (omega arith) in
    record { few = entry.0; fall = entry.1 }

pub complete_task-requires-clause-known : goal.complete_task-requires-clause-known
complete_task-requires-clause-known g c =
    let old = c.args.parts.now in
    let stands = c.requires.stands in
    let given = given_here old stands (ask.End c.args.w c.args.outcome) (did.End c.args.w c.args.t c.args.outcome) c.requires.fits in
    let there = task_here old stands c.args.t.0 (at.Running c.args.w) given.1 refl in (
      task_at (state (terms old) stands.history) c.args.t.0,
      ap (λ p. row_of p.tasks c.args.t.0) c.count_entry.ensures.rest ∙ there.0,
      open_here old stands c.args.t.0 (at.Running c.args.w) given.1 refl,
      ap is_before there.1,
    )

pub count_completion-requires : goal.count_completion-requires
count_completion-requires g c =
    let old = c.args.parts.now in
    let given = given_here old c.requires.stands (ask.End c.args.w c.args.outcome) (did.End c.args.w c.args.t c.args.outcome) c.requires.fits in
    let few = few_completions old c.requires.stands c.args.t.0 (at.Running c.args.w) given.1 refl in
    let same = ap (λ p. p.completions) c.set_slot.ensures.rest ∙ ap (λ p. p.completions) c.complete_task.ensures.rest ∙ ap (λ p. p.completions) c.count_entry.ensures.rest in
    omega (arith, few, same)

pub returns-clause-leads : goal.returns-clause-leads
returns-clause-leads g c =
    let old = c.args.parts.now in
    let o = c.args.outcome in
    let k = c.count_entry.ensures in
    let m = c.complete_task.ensures in
    let r = c.set_slot.ensures in
    let e = c.count_completion.ensures in
    leads_from old c.count_completion.new.self (ask.End c.args.w o) (did.End c.args.w c.args.t o) 5 4 1 c.requires.stands c.requires.fits
    (λ h rs legal given sh. (_, end_dies (terms old) h c.args.w c.args.t o legal given (c.requires.dies _ sh), e.views _ (r.views _ (m.views _ (k.views _ sh.seen)))))
    refl
    (ap terms e.rest ∙ ap terms r.rest ∙ ap terms m.rest ∙ ap terms k.rest)
    (ap (λ p. p.steps) e.rest ∙ ap (λ p. p.steps) r.rest ∙ ap (λ p. p.steps) m.rest ∙ ap (λ p. p.steps) k.rest)
    (ap (λ p. p.due) e.rest ∙ ap (λ p. p.due) r.rest ∙ ap (λ p. p.due) m.rest ∙ ap (λ p. p.due) k.rest)
    (λ tied. e.tied _ _ (r.tied _ _ (m.tied _ _ (k.tied _ _ tied))))

pub set_slot-requires-clause-slot : goal.set_slot-requires-clause-slot
set_slot-requires-clause-slot g c =
    let old = c.args.parts.now in
    let stands = c.requires.stands in
    let given = given_here old stands (ask.End c.args.w c.args.outcome) (did.End c.args.w c.args.t c.args.outcome) c.requires.fits in
    ap (λ p. is_awake (slot_at p.slots.slots c.args.w.0)) c.complete_task.ensures.rest
    ∙ ap (λ p. is_awake (slot_at p.slots.slots c.args.w.0)) c.count_entry.ensures.rest
    ∙ ap is_awake (seat_here old stands c.args.w.0 _ _ given.0)
