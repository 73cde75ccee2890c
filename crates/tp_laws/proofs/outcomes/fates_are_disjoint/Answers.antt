use Rattle.tp_laws.proofs.Model.Told.{told_legal}
use Rattle.tp_laws.proofs.Fates.{disjoint}
use Rattle.tp_laws.proofs.outcomes.fates_are_disjoint.Goals as goal

pub returns : goal.returns
returns c = λ c h legal. disjoint c h (told_legal c h legal)
