use Rattle.std.proofs.Common.{◌≤◌, ◌+◌, ◌^◌}
use Rattle.tp_queue.specs.Queues.{waiting_of}
use Rattle.lab_bench.proofs.measures.turns_of_take.Given as goal

abbrev pub invariant-loop-turn : goal.invariant-loop-turn
invariant-loop-turn g l = (waiting_of l.queue).offers ≤ 2 ^ 32 + l.turn
