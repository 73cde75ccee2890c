-- The record that was heard.
use Rattle.std.specs.Prelude.{◌≡◌, List, Some}
use Rattle.tp_types.specs.declared.configs.Config.{Config}
use Rattle.tp_scenario.specs.Plays.{Answered, entries_in}
use Rattle.poolrun_commands.specs.declared.records.Recording.{Recording}

-- it has the settings of the pool, and the entries among its answers
abbrev pub IsRecordOf : Recording → Config → List Answered → Type 0
IsRecordOf r c xs = (r.config ≡ Some c) × (r.entries.items ≡ entries_in xs)
