-- What a contract sees of an auditor.
use Rattle.std.specs.Prelude.{ℕ, ◌≡◌, ◌⊎◌, false, List, Some, Ok, Err}
use Rattle.tp_types.specs.declared.configs.Config.{Config}
use Rattle.tp_types.specs.declared.refusals.PoolError.{PoolError}
use Rattle.tp_types.specs.declared.refusals.PoolError.TheVariants.{BookFull}
use Rattle.tp_record.specs.declared.entries.Ask.{Ask}
use Rattle.tp_record.specs.declared.entries.Did.{Did}
use Rattle.tp_record.specs.declared.entries.Entry.{Entry}
use Rattle.tp_record.specs.Effects.{reserves}
use Rattle.tp_record.specs.State.{State}
use Rattle.tp_record.specs.Step.{step, is_free_for}
use Rattle.tp_audit.specs.declared.tables.Tables.{Tables}
use Rattle.tp_audit.specs.Tables.{StandsAt}

-- the settings of the pool whose record is judged, and what the entries say that were told
pub record Judge : Type 0 where
  pub config : Config
  pub tables : Tables

-- the settings of the pool whose record is judged
abbrev pub settings : Judge → Config
settings a = a.config

-- the auditor was told this history, and it is legal
abbrev pub Judged : Judge → List Entry → Type 0
Judged a h = StandsAt a.config h a.tables

-- the step would make slot w, which is one already, and which its entry does not free
abbrev pub IsTaken : Config → State → ℕ → Ask → Type 0
IsTaken c s w a = (d : Did) × (step c s w a ≡ Ok d) × (reserves d ≡ Some w) × (is_free_for s d w ≡ false)

-- no entry is answered, where a slot that is made gets the number w: as the step refuses, or since the step would make a slot
-- of a number that is one
abbrev pub IsDenied : Config → State → ℕ → Ask → PoolError → Type 0
IsDenied c s w a e = (step c s w a ≡ Err e) ⊎ ((e ≡ BookFull) × IsTaken c s w a)
