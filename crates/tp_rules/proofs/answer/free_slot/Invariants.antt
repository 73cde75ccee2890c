use Rattle.std.proofs.Common.{◌≡◌, ◌+◌, drop}
use Rattle.tp_rules.specs.PlainState.{least_free}
use Rattle.tp_rules.proofs.answer.free_slot.Given as goal

abbrev pub invariant-loop-slot : goal.invariant-loop-slot
invariant-loop-slot l =
    (l.free ≡ l.slot-index) × (l.free + least_free (drop l.slot-index l.state.slots.items) ≡ least_free l.state.slots.items)
