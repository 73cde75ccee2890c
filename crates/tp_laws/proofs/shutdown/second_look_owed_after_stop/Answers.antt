use Rattle.tp_laws.proofs.Model.Told.{told_legal}
use Rattle.tp_laws.proofs.Seconds.{second_look_owed}
use Rattle.tp_laws.proofs.shutdown.second_look_owed_after_stop.Goals as goal

pub returns : goal.returns
returns c = λ c h legal. second_look_owed c h (told_legal c h legal)
