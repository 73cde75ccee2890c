use Rattle.std.proofs.Common.{◌≡◌, ◌++◌}
use Rattle.tp_life.specs.Ran.{IsTold, Pairwise}
use Rattle.tp_life.proofs.running.told.Given as goal

abbrev pub invariant-loop-answer : goal.invariant-loop-answer
invariant-loop-answer g l =
    (goal.iterator-loop-answer g).can_next l.answer-iterator × (goal.iterator-loop-answer g).is_finite l.answer-iterator
    × (l.yielded ++ l.answer-iterator.rest.items ≡ l.initial.answer-iterator.rest.items)
    × Pairwise (IsTold g.W.Task.gives) l.yielded l.values.items
