use Rattle.tp_laws.proofs.WordsCounts.{counters_words}
use Rattle.tp_laws.proofs.Model.Told.{told_legal}
use Rattle.tp_laws.proofs.words.counters_agree.Goals as goal

pub returns : goal.returns
returns c = λ c h legal. counters_words c h (told_legal c h legal)
