use Rattle.std.proofs.Common.{◌≡◌, map, vec_capacity}
use Rattle.tp_pool_holds.specs.Drains.{drained_of}
use Rattle.tp_pool_holds.proofs.locked.controllers.listed.Given as goal

abbrev pub invariant-loop-t : goal.invariant-loop-t
invariant-loop-t g l =
    (goal.iterator-loop-t g).can_next l.t-iterator × (goal.iterator-loop-t g).is_finite l.t-iterator
    × (l.drained.items ≡ map drained_of l.yielded) × (vec_capacity l.drained ≡ vec_capacity l.initial.drained)
