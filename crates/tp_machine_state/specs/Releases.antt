-- When a task may be forgotten, read in the structures, and when it is not.
use Rattle.std.specs.Prelude.{ℕ, ◌≡◌, ◌⊎◌, true, false}
use Rattle.tp_types.specs.declared.tasks.Place.TheVariants as at
use Rattle.tp_types.specs.declared.refusals.PoolError.{PoolError}
use Rattle.tp_types.specs.declared.refusals.PoolError.TheVariants.{UnknownTask, NotThere}
use Rattle.tp_record.specs.declared.rows.TaskRow.{TaskRow}
use Rattle.tp_record.specs.Left.{MayRelease}
use Rattle.tp_record.specs.State.{State}
use Rattle.tp_record.specs.Step.{is_known}
use Rattle.tp_tasks.specs.declared.tasks.Tasks.{Tasks}
use Rattle.tp_tasks.specs.Tasks.{IsListed}

-- task t, which has this row, is gone and owes nothing
pub record OwesNothing {P : Type 0} (m : Tasks P) (t : ℕ) (r : TaskRow) : Type 0 where
  pub gone : r.place ≡ at.Gone
  pub paid : r.second ≡ false
  pub handed_out : ¬ IsListed m t

-- why task t is not released: it is not known, or it is and may not be
abbrev pub IsKept : State → ℕ → PoolError → Type 0
IsKept s t e = ((e ≡ UnknownTask) × (is_known s t ≡ false)) ⊎ ((e ≡ NotThere) × (is_known s t ≡ true) × ¬ MayRelease s t)
