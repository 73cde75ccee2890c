use Rattle.std.proofs.Common.{◌≤◌}
use Rattle.lab_bench.proofs.measures.idle_slots.Given as goal

abbrev pub invariant-loop-made : goal.invariant-loop-made
invariant-loop-made l = l.slots.idlings ≤ l.made
