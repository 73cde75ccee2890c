-- What a ticket's wait answers, and what is told of a task that was submitted.
use Rattle.std.specs.Prelude.{ℤ, Bool, None, ◌≡◌, ◌⊎◌, Result, Ok, Err}
use Rattle.tp_types.specs.declared.configs.Config.{Config}
use Rattle.tp_types.specs.declared.ids.TaskId.{TaskId}
use Rattle.tp_types.specs.declared.refusals.PoolError.{PoolError}
use Rattle.tp_types.specs.declared.refusals.PoolError.TheVariants.{NotThere}
use Rattle.tp_book.specs.PassView.{PassView}
use Rattle.tp_pool_holds.specs.Moments.{BookOf}
use Rattle.tp_pool_holds.specs.Passes.{LooksOnly}
use Rattle.tp_pool_holds.specs.Readings.{got, IsFound}
use Rattle.tp_pool_holds.specs.declared.tasks.Payload.{Payload}

-- the pool's own wait may answer so: then a value that a task gave is the answer, or it was taken before; or the same refusal is
abbrev pub IsAnswer : {W V : Type 0} → (W → V → Type 0) → (Result ℤ PoolError → Type 0) → Result V PoolError → Type 0
IsAnswer gives found (Ok v) = ((n : ℤ) × found (Ok n)) × ∥ ((w : _) × gives w v) ∥₁
IsAnswer gives found (Err e) = ((e ≡ NotThere) × (n : ℤ) × found (Ok n)) ⊎ found (Err e)

-- the number of a task by its ticket, or why it has none
abbrev pub submitted_as : {K : Type 0} → (K → TaskId) → Result K PoolError → Result TaskId PoolError
submitted_as number (Ok k) = Ok (number k)
submitted_as number (Err e) = Err e

-- keeps says whether the pool keeps its record, c are its settings, and a task gives such values
module _ {W V : Type 0} (keeps : Bool) (c : Config) (gives : W → V → Type 0) where
  -- of a task that was submitted so, this is told: what its future answers at the pass's new front. A submission that was refused is told
  -- of by its refusal, and the pass is as it was
  abbrev pub IsTaken : Result TaskId PoolError → Result V PoolError → PassView → PassView → Type 0
  IsTaken (Ok t) told old new = LooksOnly c old new × BookOf (Payload W) c new (λ b. IsAnswer gives (λ r. IsFound b t.0 keeps None (got r)) told)
  IsTaken (Err e) told old new = (told ≡ Err e) × (new ≡ old)
