use Rattle.tp_laws.proofs.Model.Told.{told_legal}
use Rattle.tp_laws.proofs.Fates as laws
use Rattle.tp_laws.proofs.outcomes.gone_has_fate.Goals as goal

pub returns-clause-gone : goal.returns-clause-gone
returns-clause-gone c = λ c h legal. laws.gone_has_fate c h (told_legal c h legal)

pub returns-clause-fated : goal.returns-clause-fated
returns-clause-fated c = λ c h legal. laws.fated_is_gone c h (told_legal c h legal)
