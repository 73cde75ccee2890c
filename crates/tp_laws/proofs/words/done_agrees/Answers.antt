use Rattle.tp_laws.proofs.WordsDone.{done_words}
use Rattle.tp_laws.proofs.Model.Told.{told_legal}
use Rattle.tp_laws.proofs.words.done_agrees.Goals as goal

pub returns : goal.returns
returns c = λ c h g legal. done_words c h (told_legal c h legal) g
