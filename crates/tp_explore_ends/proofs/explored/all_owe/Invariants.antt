use Rattle.std.proofs.Common.{◌≡◌, sum_by, take}
use Rattle.tp_explore.specs.Moves.{owes}
use Rattle.tp_explore_ends.proofs.explored.all_owe.Given as goal

abbrev pub invariant-loop-caller : goal.invariant-loop-caller
invariant-loop-caller l = l.sum ≡ sum_by owes (take l.caller-index l.callers)
