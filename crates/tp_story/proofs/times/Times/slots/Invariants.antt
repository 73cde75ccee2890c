use Rattle.std.proofs.Common.{◌≡◌, ◌++◌}
use Rattle.indexmap.specs.IndexMap.{keys}
use Rattle.tp_story.proofs.times.Times.slots.Given as goal

-- the numbers so far and those to come are the keys
abbrev pub invariant-loop-w : goal.invariant-loop-w
invariant-loop-w l = l.numbers.items ++ l.w-iterator ≡ keys l.self.slots
