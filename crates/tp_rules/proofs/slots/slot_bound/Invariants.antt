use Rattle.std.proofs.Common.{◌≡◌, reverse, take}
use Rattle.tp_record.specs.Fields as fields
use Rattle.tp_rules.proofs.slots.slot_bound.Given as goal

abbrev pub invariant-loop-entry : goal.invariant-loop-entry
invariant-loop-entry l = l.bound ≡ fields.slot_bound (reverse (take l.entry-index l.entries))
