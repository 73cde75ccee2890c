use Rattle.tp_laws.proofs.Model.Told.{told_legal}
use Rattle.tp_laws.proofs.InLine as laws
use Rattle.tp_laws.proofs.waiting.queue_in_order.Goals as goal

pub returns-clause-whole : goal.returns-clause-whole
returns-clause-whole c = λ c h legal. laws.lists_those_waiting c h (told_legal c h legal)

pub returns-clause-least : goal.returns-clause-least
returns-clause-least c = laws.least_first

pub returns-clause-offers : goal.returns-clause-offers
returns-clause-offers c = laws.offers_in_order
