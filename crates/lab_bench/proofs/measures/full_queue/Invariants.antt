use Rattle.std.proofs.Common.{◌≤◌}
use Rattle.tp_queue.specs.Queues.{waiting_of}
use Rattle.lab_bench.proofs.measures.full_queue.Given as goal

abbrev pub invariant-loop-number : goal.invariant-loop-number
invariant-loop-number l = (waiting_of l.queue).offers ≤ l.number
