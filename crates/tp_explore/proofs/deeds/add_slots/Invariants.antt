use Rattle.std.proofs.Common.{◌≡◌, ◌++◌, take}
use Rattle.tp_explore.specs.Moves.{slots_deeds}
use Rattle.tp_explore.specs.Situation.{seen}
use Rattle.tp_explore.proofs.deeds.add_slots.Given as goal

abbrev pub invariant-loop-w : goal.invariant-loop-w
invariant-loop-w l = l.deeds.items ≡ l.fn.deeds.items ++ slots_deeds l.plan (seen l.state) 0 (take l.w l.state.pool.slots.items)
