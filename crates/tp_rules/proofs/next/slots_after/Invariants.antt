use Rattle.std.proofs.Common.{◌≡◌, None, take}
use Rattle.tp_record.specs.Lists.{change_each, long_enough}
use Rattle.tp_record.specs.Effects.{reserves}
use Rattle.tp_record.specs.State.{slot_after}
use Rattle.tp_rules.specs.PlainState.{shown}
use Rattle.tp_rules.proofs.next.slots_after.Given as goal

abbrev pub invariant-loop-w : goal.invariant-loop-w
invariant-loop-w l =
    l.after.items ≡ change_each (slot_after l.did (shown l.state)) 0 (take l.w (long_enough (reserves l.did) None l.state.slots.items))
