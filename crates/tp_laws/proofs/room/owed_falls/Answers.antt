use Rattle.tp_laws.proofs.OwedLaws as owed
use Rattle.tp_laws.proofs.room.owed_falls.Goals as goal

pub returns-clause-answer : goal.returns-clause-answer
returns-clause-answer c = owed.owed_falls

pub returns-clause-entry : goal.returns-clause-entry
returns-clause-entry c = owed.entries_lower
