use Rattle.std.proofs.Common.{◌≡◌, length, map, take}
use Rattle.tp_explore.specs.Moves.{before}
use Rattle.tp_explore.proofs.states.first.Given as goal

abbrev pub invariant-loop-calls : goal.invariant-loop-calls
invariant-loop-calls l = l.callers.items ≡ map (λ calls. before (length calls.items)) (take l.calls-index l.plan.callers.items)
