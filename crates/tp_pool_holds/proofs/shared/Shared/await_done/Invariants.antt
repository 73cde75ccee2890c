use Rattle.tp_pool_holds.proofs.Receipts.{Later}
use Rattle.tp_pool_holds.proofs.shared.Shared.await_done.Given as goal

abbrev pub invariant-loop : goal.invariant-loop
invariant-loop g l =
    (goal.iterator-loop g).can_next l.iterator' × (goal.iterator-loop g).is_finite l.iterator' × Later l.initial.pass l.pass
