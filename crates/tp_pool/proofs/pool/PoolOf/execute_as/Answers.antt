use Rattle.std.proofs.lemmas.Result.{IfOk-weaker, IfErr-weaker}
use Rattle.tp_pool.proofs.pool.PoolOf.execute_as.Goals as goal

pub returns-clause-admitted : goal.returns-clause-admitted
returns-clause-admitted g c = IfOk-weaker c.execute_at.result _ _ (λ a is. (c.priority.result, c.priority.ensures, is)) c.execute_at.ensures.admitted

pub returns-clause-refused : goal.returns-clause-refused
returns-clause-refused g c = IfErr-weaker c.execute_at.result _ _ (λ r is. (c.priority.result, c.priority.ensures, is)) c.execute_at.ensures.refused
