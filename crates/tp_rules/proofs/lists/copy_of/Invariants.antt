use Rattle.std.proofs.Common.{◌≡◌, take}
use Rattle.tp_rules.proofs.lists.copy_of.Given as goal

abbrev pub invariant-loop-x : goal.invariant-loop-x
invariant-loop-x g l = l.copy.items ≡ take l.x-index l.list
