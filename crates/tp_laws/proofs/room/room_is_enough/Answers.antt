use Rattle.tp_laws.proofs.OwedLaws as owed
use Rattle.tp_laws.proofs.room.room_is_enough.Goals as goal

pub returns : goal.returns
returns c = owed.room_is_enough
