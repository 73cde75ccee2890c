use Rattle.tp_laws.proofs.Model.Told.{told_legal}
use Rattle.tp_laws.proofs.QueuedOnce as laws
use Rattle.tp_laws.proofs.waiting.queued_once.Goals as goal

pub returns : goal.returns
returns c = λ c h legal. laws.queued_once c h (told_legal c h legal)
