use Rattle.tp_glance.specs.Word.{IsFrontOf}
use Rattle.tp_pool_holds.proofs.Receipts.{Later}
use Rattle.tp_pool.proofs.abandoned.PoolOf+G+J+E+Tally.forget_abandoned.Given as goal

abbrev pub invariant-loop : goal.invariant-loop
invariant-loop g l = Later l.fn.pass l.pass × IsFrontOf l.fn.pass.released l.pass.released
