use Rattle.tp_laws.proofs.WordsQueue.{queue_words}
use Rattle.tp_laws.proofs.Model.Told.{told_legal}
use Rattle.tp_laws.proofs.words.queue_agrees.Goals as goal

pub returns : goal.returns
returns c = λ c h legal. queue_words c h (told_legal c h legal)
