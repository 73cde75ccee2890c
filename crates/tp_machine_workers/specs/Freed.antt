-- The entries by which a reserved slot is given back, and what is no longer owed then.
use Rattle.std.specs.Prelude.{ℕ, ◌≡◌, ◌⊎◌}
use Rattle.tp_types.specs.declared.ids.SlotId.{SlotId}
use Rattle.tp_types.specs.declared.ids.TaskId.{TaskId}
use Rattle.tp_record.specs.declared.entries.Ask.{Ask}
use Rattle.tp_record.specs.declared.entries.Ask.TheVariants as ask
use Rattle.tp_record.specs.declared.entries.Did.{Did}
use Rattle.tp_record.specs.declared.entries.Did.TheVariants as did
use Rattle.tp_record.specs.declared.entries.Failed.TheVariants as failed
use Rattle.tp_record.specs.declared.entries.Opened.TheVariants as opened
use Rattle.tp_record.specs.declared.rows.Stage.{Stage}
use Rattle.tp_record.specs.declared.rows.Stage.TheVariants.{ReservedCore}

-- a bare slot w is given back: no worker was made, or too late
abbrev pub GivesBack : SlotId → Ask → Did → Type 0
GivesBack w a d =
    ((a ≡ ask.Fail w) × (d ≡ did.Fail w failed.Nothing))
    ⊎ ((a ≡ ask.Open w) × (d ≡ did.Open w opened.GivenUp))

-- a slot w is given back, and its first task t is refused
abbrev pub TurnsAway : SlotId → TaskId → Ask → Did → Type 0
TurnsAway w t a d =
    ((a ≡ ask.Fail w) × (d ≡ did.Fail w (failed.Refuse t)))
    ⊎ ((a ≡ ask.Open w) × (d ≡ did.Open w (opened.GivenUpRefuse t)))

-- by how many fewer entries are owed then
abbrev pub first_weight : Stage → ℕ
first_weight ReservedCore = 10
first_weight _ = 6
