use Rattle.tp_laws.proofs.Model.Told.{told_legal}
use Rattle.tp_laws.proofs.Finishes as laws
use Rattle.tp_laws.proofs.tasks.finishes_once.Goals as goal

pub returns : goal.returns
returns c = λ c h legal. laws.finishes_once c h (told_legal c h legal)
