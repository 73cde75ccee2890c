use Rattle.tp_pool_holds.specs.Passes.{AddsNone}
use Rattle.tp_service.proofs.invoking.await_any.Given as goal

abbrev pub invariant-loop : goal.invariant-loop
invariant-loop g l =
    (goal.iterator-loop g).can_next l.iterator' × (goal.iterator-loop g).is_finite l.iterator' × AddsNone l.initial.pass l.pass
