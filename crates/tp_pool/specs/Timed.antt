-- What a wait by the clock finds.
use Rattle.std.specs.Prelude.{ℕ, ℤ, Bool, ◌≡◌, ◌⊎◌, Option, None, Result, Ok, Err}
use Rattle.tp_types.specs.declared.configs.Config.{Config}
use Rattle.tp_types.specs.declared.refusals.PoolError.{PoolError}
use Rattle.tp_types.specs.declared.refusals.PoolError.TheVariants.{NotThere, TimedOut}
use Rattle.tp_record.specs.State.{State}
use Rattle.tp_record.specs.declared.entries.Ask.TheVariants as ask
use Rattle.tp_machine.specs.Readings.{HasOpen}
use Rattle.tp_machine.specs.Steps.{IsRefusedAt}
use Rattle.tp_book.specs.BookView.{BookView}
use Rattle.tp_pool_holds.specs.Readings.{IsResult, IsUndoneAt}

-- what the future of task t answers; or, while that is none, that the time is over
abbrev pub IsFoundInTime : {P : Type 0} → BookView P → ℕ → Bool → Result (Option ℤ) PoolError → Type 0
IsFoundInTime b t keeps r = IsResult b t keeps r ⊎ ((r ≡ Err TimedOut) × IsResult b t keeps (Ok None))

-- no task of the group is done, and the wait for one is refused so; or one is open, and the time is over
abbrev pub IsUndoneInTime : Config → State → ℕ → PoolError → Type 0
IsUndoneInTime c s g e = IsUndoneAt c s g e ⊎ ((e ≡ TimedOut) × HasOpen g s × IsRefusedAt c s (ask.TakeDone g) NotThere)
