use Rattle.tp_laws.proofs.WordsBegun as beginnings
use Rattle.tp_laws.proofs.Model.Told.{told_legal}
use Rattle.tp_laws.proofs.words.begun_agrees.Goals as goal

pub returns-clause-once : goal.returns-clause-once
returns-clause-once c = λ c h t legal. beginnings.begun_short c h (told_legal c h legal) t

pub returns-clause-begun : goal.returns-clause-begun
returns-clause-begun c = λ c h t legal. beginnings.begun_agrees c h (told_legal c h legal) t

pub returns-clause-waiting : goal.returns-clause-waiting
returns-clause-waiting c = λ c h t legal. beginnings.waiting_agrees c h (told_legal c h legal) t
