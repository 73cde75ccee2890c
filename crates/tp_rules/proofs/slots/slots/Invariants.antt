use Rattle.std.proofs.Common.{◌≡◌, map, reverse}
use Rattle.tp_record.specs.Lists.{count_from}
use Rattle.tp_record.specs.Fields as fields
use Rattle.tp_rules.proofs.slots.slots.Given as goal

abbrev pub invariant-loop-w : goal.invariant-loop-w
invariant-loop-w l = l.slots.items ≡ map (fields.slot_row (reverse l.entries)) (count_from 0 l.w)
