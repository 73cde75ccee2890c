use Rattle.tp_laws.proofs.Model.Told.{told_legal}
use Rattle.tp_laws.proofs.Ranks.{none_idle, none_idling}
use Rattle.tp_laws.proofs.shutdown.no_idle_after_shutdown.Goals as goal

pub returns-clause-since : goal.returns-clause-since
returns-clause-since c = λ c h legal. none_idle c h (told_legal c h legal)

pub returns-clause-idling : goal.returns-clause-idling
returns-clause-idling c = λ c h legal. none_idling c h (told_legal c h legal)
