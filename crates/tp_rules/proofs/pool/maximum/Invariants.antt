use Rattle.std.proofs.Common.{◌≡◌, reverse, take}
use Rattle.tp_record.specs.Fields as fields
use Rattle.tp_record.specs.Effects.{sets_maximum}
use Rattle.tp_rules.proofs.pool.maximum.Given as goal

abbrev pub invariant-loop-entry : goal.invariant-loop-entry
invariant-loop-entry l = l.maximum ≡ fields.last_set sets_maximum l.first (reverse (take l.entry-index l.entries))
