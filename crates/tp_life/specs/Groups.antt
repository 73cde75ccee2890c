-- What is told of a group's next task.
use Rattle.std.specs.Prelude.{ℕ, Bool, ◌≡◌, ◌≢◌, ◌⊎◌, ◌<◌, List, ◌∷◌, length, slice_index_or, IsPermutation, Option, None, Some, Result, Err}
use Rattle.tp_types.specs.declared.configs.Config.{Config}
use Rattle.tp_types.specs.declared.ids.TaskId.{TaskId}
use Rattle.tp_types.specs.declared.refusals.PoolError.{PoolError}
use Rattle.tp_types.specs.declared.refusals.PoolError.TheVariants.{NoMemory, NothingOpen, NotThere}
use Rattle.tp_record.specs.State.{State}
use Rattle.tp_record.specs.declared.entries.Ask.TheVariants as ask
use Rattle.tp_record.specs.declared.entries.Did.TheVariants as did
use Rattle.tp_book.specs.PassView.{PassView}
use Rattle.tp_pool_holds.specs.Moments.{AtFront, BookOf}
use Rattle.tp_pool_holds.specs.Passes.{AddsNone, AddsStep, LooksOnly}
use Rattle.tp_pool_holds.specs.Readings.{got, IsFound}
use Rattle.tp_pool_holds.specs.declared.tasks.Payload.{Payload}
use Rattle.tp_life.specs.Futures.{IsAnswer}

-- the group had these tickets, each of a task, and has those
module _ {X : Type 0} (had has : List X) (task : X → TaskId) where
  -- the ticket of this task is out, and the others are there
  abbrev pub IsOut : TaskId → X → Type 0
  IsOut t k = (task k ≡ t) × IsPermutation had (k ∷ has)

  -- none was of this task, and all are there
  abbrev pub HadNone : TaskId → Type 0
  HadNone t = (has ≡ had) × ((i : ℕ) (k : X) → i < length had → task (slice_index_or had i k) ≢ t)

  -- W are a pool's tasks, which give such values; c judges its steps, and group is the group's number
  module _ {W V : Type 0} (gives : W → V → Type 0) (keeps : Bool) (c : Config) (group : ℕ) where
    -- this is told of a task that was taken, by its ticket; or its ticket is elsewhere
    abbrev pub IsToldOf : TaskId → Result V PoolError → PassView → PassView → Type 0
    IsToldOf t told old new =
        (((k : X) × IsOut t k) × LooksOnly c old new × BookOf (Payload W) c new (λ b. IsAnswer gives (λ r. IsFound b t.0 keeps None (got r)) told))
        ⊎ (HadNone t × (told ≡ Err NotThere) × (new ≡ old))

    -- this task was taken, and then this was told of it
    abbrev pub IsTaken : TaskId → Result V PoolError → PassView → PassView → Type 0
    IsTaken t told old new = (mid : PassView) × AddsStep c old (ask.TakeDone group) (did.TakeDone group t) mid × IsToldOf t told mid new

    -- and the wait is refused so, where the pool stands so
    module _ (undone : State → PoolError → Type 0) where
      -- nothing was taken: there was no memory for the receipt, or the wait is refused so
      abbrev pub IsUntaken : PoolError → PassView → PassView → Type 0
      IsUntaken e old new = (((e ≡ NoMemory) × (old.room < 1)) ⊎ AtFront c new.front (λ s. undone s e)) × AddsNone old new × (has ≡ had)

      -- of the next done task, this is told, or why none was taken; or none is open
      abbrev pub IsNext : Option (Result V PoolError) → PassView → PassView → Type 0
      IsNext None old new = IsUntaken NothingOpen old new
      IsNext (Some told) old new = ((t : TaskId) × IsTaken t told old new) ⊎ ((e : PoolError) × (e ≢ NothingOpen) × (told ≡ Err e) × IsUntaken e old new)

      -- of results of which at most so many are left, this is the next one; or none is left, or none is open
      abbrev pub IsResult : ℕ → Option (Result V PoolError) → PassView → PassView → Type 0
      IsResult left None old new = ((left ≡ 0) × (new ≡ old) × (has ≡ had)) ⊎ ((0 < left) × IsNext None old new)
      IsResult left (Some told) old new = (0 < left) × IsNext (Some told) old new
