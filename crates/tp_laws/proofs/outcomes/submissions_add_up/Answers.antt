use Rattle.tp_laws.proofs.Model.Told.{told_legal}
use Rattle.tp_laws.proofs.Sums as laws
use Rattle.tp_laws.proofs.outcomes.submissions_add_up.Goals as goal

pub returns-clause-numbered : goal.returns-clause-numbered
returns-clause-numbered c = λ c h legal. laws.numbered_in_order c h (told_legal c h legal)

pub returns-clause-sum : goal.returns-clause-sum
returns-clause-sum c = λ c h legal. laws.submissions_add_up c h (told_legal c h legal)
