use Rattle.tp_laws.proofs.Model.Told.{told_legal}
use Rattle.tp_laws.proofs.Places as laws
use Rattle.tp_laws.proofs.tasks.one_place.Goals as goal

pub returns : goal.returns
returns c = λ c h legal. laws.one_place c h (told_legal c h legal)
