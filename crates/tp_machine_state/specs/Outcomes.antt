-- Whether the outcome that an ask comes with is as the task promised that ends, read in the structures.
use Rattle.std.specs.Prelude.{ℕ, ◌≡◌, ◌⊎◌, Option, Some, None, IfSome, option_map, ⊤}
use Rattle.tp_types.specs.Promise.{FitsPromise}
use Rattle.tp_types.specs.declared.ids.SlotId.{SlotId}
use Rattle.tp_types.specs.declared.ids.TaskId.{TaskId}
use Rattle.tp_types.specs.declared.refusals.PoolError.{PoolError}
use Rattle.tp_types.specs.declared.refusals.PoolError.TheVariants.{TornRecord}
use Rattle.tp_types.specs.declared.tasks.Place.{Place}
use Rattle.tp_types.specs.declared.tasks.Place.TheVariants as at
use Rattle.tp_record.specs.declared.entries.Ask.{Ask}
use Rattle.tp_record.specs.declared.entries.Ask.TheVariants as ask
use Rattle.tp_record.specs.declared.rows.SlotRow.{SlotRow}
use Rattle.tp_record.specs.Effects.{Outcome}
use Rattle.tp_record.specs.State.{slot_at}
use Rattle.tp_tasks.specs.Tasks.{row_of, promise_of}
use Rattle.tp_machine_state.specs.declared.parts.Parts.{Parts}
use Rattle.tp_machine_state.specs.Steps.{Refuses}

abbrev pub task_of_row : Option SlotRow → Option TaskId
task_of_row None = None
task_of_row (Some r) = r.task

module _ {P : Type 0} where
  -- the outcome is as the task promised that runs in slot w, where one does
  abbrev pub FitsThere : Parts P → SlotId → Outcome → Type 0
  FitsThere p w o = (t : TaskId) → task_of_row (slot_at p.slots.slots w.0) ≡ Some t → option_map (λ r. r.place) (row_of p.tasks t.0) ≡ Some (at.Running w) → IfSome (promise_of p.tasks t.0) (λ k. FitsPromise k o)

  -- the outcome is as task t promised, where it is at its caller
  abbrev pub FitsAtCaller : Parts P → TaskId → Outcome → Type 0
  FitsAtCaller p t o = option_map (λ r. r.place) (row_of p.tasks t.0) ≡ Some at.Caller → IfSome (promise_of p.tasks t.0) (λ k. FitsPromise k o)

  -- the outcome that comes with the ask is as the task promised that ends
  abbrev pub FitsOutcome : Parts P → Ask → Type 0
  FitsOutcome p (ask.CallerEnd t o) = FitsAtCaller p t o
  FitsOutcome p (ask.End w o) = FitsThere p w o
  FitsOutcome p _ = ⊤

  -- an ask is refused: its outcome is not as the task promised that ends, or else the step refuses it so
  abbrev pub Denies : Parts P → Ask → PoolError → Type 0
  Denies p a e = ((e ≡ TornRecord) × ¬ FitsOutcome p a) ⊎ (FitsOutcome p a × Refuses p a e)
