use Rattle.tp_laws.proofs.Model.Told.{told_legal}
use Rattle.tp_laws.proofs.Ranks as laws
use Rattle.tp_laws.proofs.shutdown.ended_once.Goals as goal

pub returns : goal.returns
returns c = λ c h legal. laws.ended_once c h (told_legal c h legal)
