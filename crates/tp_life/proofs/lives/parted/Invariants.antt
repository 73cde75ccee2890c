use Rattle.std.proofs.Common.{◌≡◌, ◌++◌, Some, length, vec_capacity}
use Rattle.tp_life.specs.Ran.{Pairwise}
use Rattle.tp_life.proofs.lives.parted.Given as goal

abbrev pub invariant-loop-caller : goal.invariant-loop-caller
invariant-loop-caller g l =
    (goal.iterator-loop-caller g).can_next l.caller-iterator × (goal.iterator-loop-caller g).is_finite l.caller-iterator
    × (length l.outs.items ≡ length l.yielded) × (length l.passes.items ≡ length l.yielded)
    × (vec_capacity l.outs ≡ vec_capacity l.initial.outs) × (vec_capacity l.passes ≡ vec_capacity l.initial.passes)
    × (l.yielded ++ l.caller-iterator.rest.items ≡ l.initial.caller-iterator.rest.items)
    × Pairwise (λ k o. k.out ≡ Some o) l.yielded l.outs.items × Pairwise (λ k p. p ≡ k.seat.pass) l.yielded l.passes.items
