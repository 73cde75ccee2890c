use Rattle.std.proofs.Common.{◌≡◌, ◌≤◌, count_by, take}
use Rattle.tp_slots.specs.Tied.{is_taking}
use Rattle.tp_slots.proofs.kept_slots.KeptSlots.at_take.Given as goal

abbrev pub invariant-loop-slot : goal.invariant-loop-slot
invariant-loop-slot l = (l.count ≡ count_by is_taking (take l.slot-index l.slot-items)) × (l.count ≤ l.slot-index)
