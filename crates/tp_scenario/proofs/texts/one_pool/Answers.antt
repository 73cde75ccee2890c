use Rattle.tp_text.proofs.PoolReading.{pool_text-injective}
use Rattle.tp_scenario.proofs.texts.one_pool.Goals as goal

pub returns : goal.returns
returns c = pool_text-injective
