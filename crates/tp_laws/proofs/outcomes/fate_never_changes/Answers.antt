use Rattle.tp_laws.proofs.Model.Told.{told_legal}
use Rattle.tp_laws.proofs.Fates.{never_changes}
use Rattle.tp_laws.proofs.outcomes.fate_never_changes.Goals as goal

pub returns : goal.returns
returns c = λ c later h legal. never_changes c later h (told_legal c _ legal)
