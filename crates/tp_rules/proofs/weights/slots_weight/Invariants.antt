use Rattle.std.proofs.Common.{◌≡◌, ◌≤◌, ◌*◌, take}
use Rattle.std.specs.Prelude.{sum_by}
use Rattle.tp_record.specs.State.{slot_weight}
use Rattle.tp_rules.proofs.weights.slots_weight.Given as goal

abbrev pub invariant-loop-slot : goal.invariant-loop-slot
invariant-loop-slot l = (l.sum ≡ sum_by (slot_weight l.rank) (take l.slot-index l.slots)) × (l.sum ≤ 4 * l.slot-index)
