use Rattle.tp_laws.proofs.Model.Told.{told_legal}
use Rattle.tp_laws.proofs.Late.{none_after_shutdown}
use Rattle.tp_laws.proofs.shutdown.nothing_begins_after_shutdown.Goals as goal

pub returns : goal.returns
returns c = λ c later h legal. none_after_shutdown c later h (told_legal c _ legal)
