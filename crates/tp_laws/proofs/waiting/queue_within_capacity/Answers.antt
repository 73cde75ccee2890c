use Rattle.tp_laws.proofs.Sizes as laws
use Rattle.tp_laws.proofs.waiting.queue_within_capacity.Goals as goal

pub returns : goal.returns
returns c = λ c h legal. laws.queue_within_capacity c h legal
