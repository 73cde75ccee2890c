use Rattle.std.proofs.Common.{◌≤◌, ◌+◌, ◌^◌}
use Rattle.lab_bench.proofs.measures.turns_of_middle.Given as goal

abbrev pub invariant-loop-turn : goal.invariant-loop-turn
invariant-loop-turn g l = l.slots.idlings ≤ 2 ^ 32 + l.turn
