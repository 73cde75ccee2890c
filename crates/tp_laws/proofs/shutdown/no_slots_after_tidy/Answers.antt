use Rattle.tp_laws.proofs.Model.Told.{told_legal}
use Rattle.tp_laws.proofs.Slots.{none_after_tidy}
use Rattle.tp_laws.proofs.shutdown.no_slots_after_tidy.Goals as goal

pub returns : goal.returns
returns c = λ c later e h legal. none_after_tidy c later e h (told_legal c _ legal)
