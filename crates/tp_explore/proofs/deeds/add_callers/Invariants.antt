use Rattle.std.proofs.Common.{◌≡◌, ◌++◌, take}
use Rattle.tp_explore.specs.Moves.{callers_deeds}
use Rattle.tp_explore.specs.Situation.{seen}
use Rattle.tp_explore.proofs.deeds.add_callers.Given as goal

abbrev pub invariant-loop-i : goal.invariant-loop-i
invariant-loop-i l = l.deeds.items ≡ l.fn.deeds.items ++ callers_deeds l.plan (seen l.state) 0 (take l.i l.state.callers.items)
