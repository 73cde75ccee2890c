use Rattle.tp_pool_advice.proofs.Rooms.{jobs_have_room}
use Rattle.tp_pool_advice.proofs.sizes.law_jobs_have_room.Goals as goal

pub returns : goal.returns
returns c = jobs_have_room
