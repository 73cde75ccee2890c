use Rattle.tp_laws.proofs.OwedLaws as owed
use Rattle.tp_laws.proofs.room.never_short_of_room.Goals as goal

pub returns-clause-never : goal.returns-clause-never
returns-clause-never c = owed.never_short_of_room

pub returns-clause-answer : goal.returns-clause-answer
returns-clause-answer c = owed.room_changes_no_answer
