-- The settings by which a pool's steps are judged.
use Rattle.tp_types.specs.declared.configs.Config.{Config}
use Rattle.tp_machine_state.specs.declared.parts.Parts.{Parts}

-- those that the pool was made with, at the limit that it has: what keeps its record says so
abbrev pub terms : {P : Type 0} → Parts P → Config
terms p = record p.config { record_limit = p.limit }
