use Rattle.std.proofs.Common.{◌+◌, ◌-◌, length}
use Rattle.tp_explore_text.proofs.slots.Slots.give.Given as goal

abbrev pub invariant-loop-self : goal.invariant-loop-self
invariant-loop-self l = Unit {0}

abbrev pub decreases-loop-self : goal.decreases-loop-self
decreases-loop-self l = l.w.0 + 1 - length l.self.given.items
