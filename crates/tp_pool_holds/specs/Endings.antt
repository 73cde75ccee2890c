-- What the end of a pool adds to the pass of a caller that asks for it.
use Rattle.std.specs.Prelude.{ℕ, ◌≡◌, ◌⊎◌, List, [], ◌∷◌}
use Rattle.tp_types.specs.declared.configs.Config.{Config}
use Rattle.tp_types.specs.declared.refusals.PoolError.{PoolError}
use Rattle.tp_record.specs.declared.entries.Ask.{Ask}
use Rattle.tp_record.specs.declared.entries.Ask.TheVariants as ask
use Rattle.tp_record.specs.declared.entries.Did.{Did}
use Rattle.tp_record.specs.declared.entries.Entry.{Entry}
use Rattle.tp_machine.specs.Steps.{IsRefusedAt}
use Rattle.tp_book.specs.PassView.{PassView}
use Rattle.tp_pool_holds.specs.Moments.{AtFront}
use Rattle.tp_pool_holds.specs.Passes.{Adds, entry_of, tidied, ended}

-- at this history a pool with these settings refuses this ask, as a step that names no task is refused whether or not the record is kept
abbrev pub IsBarred : Config → List Entry → Ask → Type 0
IsBarred c history a = (e : PoolError) × AtFront c history (λ s. IsRefusedAt c s a e)

-- the steps of an end that the pass of this number made, as far as the pool took them, `tidy` and `ended`; at this history it took no more
abbrev pub IsEnding : Config → ℕ → List Entry → List Entry → Type 0
IsEnding c by steps history =
    ((steps ≡ []) × IsBarred c history ask.Tidy)
    ⊎ ((steps ≡ tidied by ∷ []) × IsBarred c history ask.Ended)
    ⊎ (steps ≡ tidied by ∷ ended by ∷ [])

-- the pass has the receipts of the pool's end as far as it made it
abbrev pub AddsEnding : Config → PassView → PassView → Type 0
AddsEnding c old new = (steps : List Entry) × IsEnding c old.number steps new.front × Adds c old steps new

-- it has the receipt of one step more, and those of the pool's end as far as it made it
abbrev pub AddsAndEnds : Config → PassView → Ask → Did → PassView → Type 0
AddsAndEnds c old a d new = (steps : List Entry) × IsEnding c old.number steps new.front × Adds c old (entry_of old.number a d ∷ steps) new
