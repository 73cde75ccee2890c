-- The task that a worker ends runs in its slot: an outcome is as promised there just where it is as that task promised.
use Rattle.std.proofs.Common.{◌≡◌, Some, refl, ap, ◌∙◌}
use Rattle.std.specs.Prelude.{option_map, IfSome}
use Rattle.tp_types.specs.Promise.{FitsPromise}
use Rattle.tp_types.specs.declared.ids.TaskId.{TaskId}
use Rattle.tp_types.specs.declared.ids.SlotId.{SlotId}
use Rattle.tp_types.specs.declared.tasks.Place.TheVariants as at
use Rattle.tp_record.specs.declared.entries.Ask.TheVariants as ask
use Rattle.tp_record.specs.declared.entries.Did.TheVariants as did
use Rattle.tp_record.specs.declared.rows.Stage.TheVariants as stages
use Rattle.tp_record.specs.Effects.{Outcome}
use Rattle.tp_record.specs.State.{slot_at}
use Rattle.tp_tasks.specs.Tasks.{promise_of, row_of}
use Rattle.tp_machine_state.specs.declared.parts.Parts.{Parts}
use Rattle.tp_machine_state.specs.Outcomes.{FitsThere, task_of_row}
use Rattle.tp_machine_state.specs.Steps.{Stands, Fits}
use Rattle.tp_machine_state.proofs.Standing.{given_here, seat_here, task_here}

module _ {P : Type 0} (p : Parts P) (stands : Stands p) (w : SlotId) (t : TaskId) (o : Outcome) (fits : Fits p (ask.End w o) (did.End w t o)) where
  seated : task_of_row (slot_at p.slots.slots w.0) ≡ Some t
  seated = ap task_of_row (seat_here p stands w.0 stages.Working (Some t) (given_here p stands (ask.End w o) (did.End w t o) fits).0)

  runs : option_map (λ r. r.place) (row_of p.tasks t.0) ≡ Some (at.Running w)
  runs =
      let row = task_here p stands t.0 (at.Running w) (given_here p stands (ask.End w o) (did.End w t o) fits).1 refl in
      ap (option_map (λ r. r.place)) row.0 ∙ ap Some row.1

  pub promised_here : FitsThere p w o → IfSome (promise_of p.tasks t.0) (λ k. FitsPromise k o)
  promised_here there = there t seated runs
