use Rattle.tp_text.proofs.PoolLaws.{no_pool}
use Rattle.tp_text.proofs.pools.pool_of.Goals as goal

pub returns-in_err-core : goal.returns-in_err-core
returns-in_err-core c = rw c.from_residual-in_err-core.ensures (no_pool _ _ c.in_ok-behind.ensures c.in_err-core.ensures)
