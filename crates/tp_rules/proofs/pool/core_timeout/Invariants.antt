use Rattle.std.proofs.Common.{◌≡◌, reverse, take}
use Rattle.tp_record.specs.Fields as fields
use Rattle.tp_record.specs.Effects.{sets_core_timeout}
use Rattle.tp_rules.proofs.pool.core_timeout.Given as goal

abbrev pub invariant-loop-entry : goal.invariant-loop-entry
invariant-loop-entry l = l.on ≡ fields.last_set sets_core_timeout l.first (reverse (take l.entry-index l.entries))
