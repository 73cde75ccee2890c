use Rattle.std.proofs.Common.{◌≡◌, ◌++◌}
use Rattle.tp_life.proofs.running.held.Given as goal

abbrev pub invariant-loop-task : goal.invariant-loop-task
invariant-loop-task g l =
    (goal.iterator-loop-task g).can_next l.task-iterator × (goal.iterator-loop-task g).is_finite l.task-iterator
    × (l.yielded ++ l.task-iterator.rest.items ≡ l.initial.task-iterator.rest.items) × (l.jobs.items ≡ l.yielded)
