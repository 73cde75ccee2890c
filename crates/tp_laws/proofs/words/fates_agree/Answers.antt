use Rattle.tp_laws.proofs.WordsFates.{fate_agrees}
use Rattle.tp_laws.proofs.Model.Told.{told_legal}
use Rattle.tp_laws.proofs.words.fates_agree.Goals as goal

pub returns : goal.returns
returns c = λ c h f t legal. fate_agrees c h (told_legal c h legal) f t
