-- The settings by which the steps of a pool without a record are judged.
use Rattle.std.specs.Prelude.{◌-◌, ◌^◌}
use Rattle.tp_types.specs.declared.configs.Config.{Config}

-- those that it was made with, at a limit of as many entries as a number of 64 bits counts
abbrev pub without_end : Config → Config
without_end c = record c { record_limit = 2 ^ 64 - 1 }
