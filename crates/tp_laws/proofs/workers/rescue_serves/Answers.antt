use Rattle.tp_laws.proofs.Model.Told.{told_legal}
use Rattle.tp_laws.proofs.Rescues as laws
use Rattle.tp_laws.proofs.workers.rescue_serves.Goals as goal

pub returns : goal.returns
returns c = λ c h legal. laws.rescue_serves c h (told_legal c h legal)
