use Rattle.std.proofs.Common.{◌≡◌, ◌++◌, length, map, vec_capacity}
use Rattle.tp_pool.specs.Turns.{ThroughBoth}
use Rattle.tp_life.specs.Futures.{submitted_as, IsTaken}
use Rattle.tp_life.proofs.batches.take_each.Given as goal

abbrev pub invariant-loop-ticket : goal.invariant-loop-ticket
invariant-loop-ticket g l =
    (goal.iterator-loop-ticket g).can_next l.ticket-iterator × (goal.iterator-loop-ticket g).is_finite l.ticket-iterator
    × (length l.told.items ≡ length l.yielded) × (vec_capacity l.told ≡ vec_capacity l.initial.told)
    × (l.yielded ++ l.ticket-iterator.rest.items ≡ l.initial.ticket-iterator.rest.items)
    × ThroughBoth (IsTaken g.P.Controls.keeps g.P.Controls.terms g.W.Task.gives) (map (submitted_as (λ k. k.task)) l.yielded) l.told.items (g.P.Controls.pass l.fn.pool) (g.P.Controls.pass l.pool)
