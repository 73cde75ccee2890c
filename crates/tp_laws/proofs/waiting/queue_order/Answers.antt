use Rattle.std.specs.Prelude.{◌∷◌, ◌++◌}
use Rattle.tp_laws.proofs.Model.Told.{told_legal}
use Rattle.tp_laws.proofs.Order as laws
use Rattle.tp_laws.proofs.waiting.queue_order.Goals as goal

pub returns-clause-first : goal.returns-clause-first
returns-clause-first c = λ c e h legal. laws.first_leaves c e h (told_legal c (e ∷ h) legal)

pub returns-clause-order : goal.returns-clause-order
returns-clause-order c = λ c e after between before eu et plain legal. laws.queue_order c e after between before eu et plain (told_legal c (e ∷ (after ++ eu ∷ (between ++ et ∷ before))) legal)

pub returns-clause-least : goal.returns-clause-least
returns-clause-least c = λ c e h legal. laws.none_before c e h (told_legal c (e ∷ h) legal)

pub returns-clause-equals : goal.returns-clause-equals
returns-clause-equals c = λ c e after between before eu et legal. laws.first_of_equals c e after between before eu et (told_legal c (e ∷ (after ++ eu ∷ (between ++ et ∷ before))) legal)
