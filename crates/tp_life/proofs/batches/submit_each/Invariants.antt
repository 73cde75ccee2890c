use Rattle.std.proofs.Common.{◌≡◌, ◌++◌, length, map, vec_capacity}
use Rattle.tp_pool.specs.Submissions.{Submits}
use Rattle.tp_pool.specs.Turns.{ThroughBoth}
use Rattle.tp_life.specs.declared.tasks.TheConstants.{VOID}
use Rattle.tp_life.specs.Futures.{submitted_as}
use Rattle.tp_life.proofs.batches.submit_each.Given as goal

abbrev pub invariant-loop-task : goal.invariant-loop-task
invariant-loop-task g l =
    (goal.iterator-loop-task g).can_next l.task-iterator × (goal.iterator-loop-task g).is_finite l.task-iterator
    × (length l.tickets.items ≡ length l.yielded) × (vec_capacity l.tickets ≡ vec_capacity l.initial.tickets)
    × (l.yielded ++ l.task-iterator.rest.items ≡ l.initial.task-iterator.rest.items)
    × ThroughBoth (λ task r. Submits g.P.Controls.keeps g.P.Controls.terms task VOID (g.W.Task.urgency task) r) l.yielded (map (submitted_as (λ k. k.task)) l.tickets.items) (g.P.Controls.pass l.fn.pool) (g.P.Controls.pass l.pool)
