use Rattle.tp_laws.proofs.Model.Told.{told_legal}
use Rattle.tp_laws.proofs.Serves as laws
use Rattle.tp_laws.proofs.workers.served.Goals as goal

pub returns : goal.returns
returns c = λ c h sizes legal. laws.served c h sizes (told_legal c h legal)
