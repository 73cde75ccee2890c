use Rattle.tp_glance.specs.Word.{IsFrontOf}
use Rattle.tp_pool_holds.proofs.Receipts.{Later}
use Rattle.tp_pool.proofs.pool.PoolOf.await_result_for.Given as goal

abbrev pub invariant-loop : goal.invariant-loop
invariant-loop g l =
    (goal.iterator-loop g).can_next l.iterator' × (goal.iterator-loop g).is_finite l.iterator' × Later l.initial.pass l.pass × IsFrontOf l.initial.pass.released l.pass.released
