use Rattle.tp_laws.proofs.Model.Told.{told_legal}
use Rattle.tp_laws.proofs.Places as laws
use Rattle.tp_laws.proofs.shutdown.owed_after_tidy.Goals as goal

pub returns : goal.returns
returns c = λ c h legal. laws.owed_after_tidy c h (told_legal c h legal)
