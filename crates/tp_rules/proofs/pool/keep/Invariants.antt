use Rattle.std.proofs.Common.{◌≡◌, reverse, take}
use Rattle.tp_record.specs.Fields as fields
use Rattle.tp_record.specs.Effects.{sets_keep}
use Rattle.tp_rules.proofs.pool.keep.Given as goal

abbrev pub invariant-loop-entry : goal.invariant-loop-entry
invariant-loop-entry l = l.keep ≡ fields.last_set sets_keep l.first (reverse (take l.entry-index l.entries))
