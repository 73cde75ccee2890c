use Rattle.std.specs.Prelude.{◌∷◌}
use Rattle.tp_laws.proofs.Model.Told.{told_legal}
use Rattle.tp_laws.proofs.Sizes as laws
use Rattle.tp_laws.proofs.workers.slots_within_maximum.Goals as goal

pub returns : goal.returns
returns c = λ c e h sizes legal. laws.slots_within_maximum c e h sizes (told_legal c (e ∷ h) legal)
