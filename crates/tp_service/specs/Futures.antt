-- What a pass is told of futures, each time at the front that it knows then.
use Rattle.std.specs.Prelude.{ℕ, ℤ, Bool, true, ◌≡◌, ◌≢◌, List, Option, Some, None, Ok, Err}
use Rattle.tp_types.specs.declared.configs.Config.{Config}
use Rattle.tp_types.specs.declared.ids.TaskId.{TaskId}
use Rattle.tp_types.specs.declared.refusals.PoolError.{PoolError}
use Rattle.tp_types.specs.declared.refusals.PoolError.TheVariants.{Faulted, TimedOut, AllFailed}
use Rattle.tp_machine.specs.Readings.{value_in}
use Rattle.tp_glance.specs.Word.{IsFrontOf}
use Rattle.tp_book.specs.BookView.{recalled}
use Rattle.tp_book.specs.PassView.{PassView}
use Rattle.tp_pool_holds.specs.Passes.{LooksOnly}
use Rattle.tp_pool_holds.specs.Readings.{IsFound, IsResult}
use Rattle.tp_pool_holds.specs.Moments.{BookOf}
use Rattle.tp_pool.specs.Timed.{IsFoundInTime}
use Rattle.tp_pool.specs.Turns.{Through}

-- the last fault, where this one came before this refusal
abbrev pub later_fault : Option ℕ → PoolError → Option ℕ
later_fault before (Faulted code) = Some code
later_fault before _ = before

-- P is what the pool keeps of a job, c its settings
module _ (P : Type 0) (c : Config) where
  -- as this pass knows the pool, a wait for the future finds that now has reached the deadline
  abbrev pub IsLate : ℕ → PassView → TaskId → Type 0
  IsLate deadline p t = BookOf P c p (λ b. IsFound b t.0 true (Some deadline) (Err TimedOut))

  -- as this pass knows the pool, the future is open, and the time of the wait is over
  abbrev pub IsOverdue : PassView → TaskId → Type 0
  IsOverdue p t = BookOf P c p (λ b. IsFoundInTime b t.0 true (Err TimedOut))

  -- it has this value there
  abbrev pub HasValue : ℤ → PassView → TaskId → Type 0
  HasValue v p t = BookOf P c p (λ b. IsResult b t.0 true (Ok (Some v)))

-- and keeps says whether it keeps its record
module _ (P : Type 0) (keeps : Bool) (c : Config) where
  -- as this pass knows the pool, the future is not open: what the pool remembers of it is not that it is
  abbrev pub IsClosed : PassView → TaskId → Type 0
  IsClosed p t = BookOf P c p (λ b. value_in (recalled keeps b) t.0 ≢ Ok None)

  -- the pass looks, and the future is not open then
  abbrev pub Closes : TaskId → PassView → PassView → Type 0
  Closes t old new = LooksOnly c old new × IsClosed new t

  -- so it does for each of these, one after another
  abbrev pub CloseAll : List TaskId → PassView → PassView → Type 0
  CloseAll ts old new = Through Closes ts old new

  -- the pass looks, and the future has no value and is not open then; and this is the last fault with it, where that was the last one before. What
  -- was released stays so: an unknown task was released in the history that the pass knows at last
  abbrev pub Fails : TaskId → PassView × Option ℕ → PassView × Option ℕ → Type 0
  Fails t before after =
      LooksOnly c before.0 after.0 × IsFrontOf before.0.released after.0.released
      × ((e : PoolError) × BookOf P c after.0 (λ b. IsResult b t.0 keeps (Err e)) × (after.1 ≡ later_fault before.1 e))

  -- so it is with each of these, one after another, and the refusal has the last fault in their order
  abbrev pub HaveFailed : List TaskId → PoolError → PassView → PassView → Type 0
  HaveFailed ts e old new = (fault : Option ℕ) × (e ≡ AllFailed fault) × Through Fails ts (old, None) (new, fault)
