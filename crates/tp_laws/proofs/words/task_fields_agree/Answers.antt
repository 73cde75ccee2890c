use Rattle.tp_laws.proofs.WordsRest as rest
use Rattle.tp_laws.proofs.words.task_fields_agree.Goals as goal

pub returns-clause-second : goal.returns-clause-second
returns-clause-second c = λ c h t legal. rest.owes_agrees c h legal t

pub returns-clause-retries : goal.returns-clause-retries
returns-clause-retries c = λ c h t legal. rest.retries_agree c h legal t

pub returns-clause-outcome : goal.returns-clause-outcome
returns-clause-outcome c = λ c h t legal. rest.outcome_agrees c h legal t
