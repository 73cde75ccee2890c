use Rattle.std.proofs.Common.{◌≡◌, ◌≤◌, take}
use Rattle.std.specs.Prelude.{count_by}
use Rattle.tp_record.specs.Fields as fields
use Rattle.tp_rules.proofs.slots.live_of.Given as goal

abbrev pub invariant-loop-slot : goal.invariant-loop-slot
invariant-loop-slot l = (l.live ≡ count_by fields.is_live (take l.slot-index l.slots)) × (l.live ≤ l.slot-index)
