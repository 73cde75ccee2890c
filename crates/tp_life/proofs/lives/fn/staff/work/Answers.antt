use denote.Param.Send.{sendable}
use Rattle.tp_life.proofs.lives.fn.staff.work.Goals as goal

pub starter-requires-send-G : goal.starter-requires-send-G
starter-requires-send-G g c κs within = search sendable

pub starter-requires-send-J : goal.starter-requires-send-J
starter-requires-send-J g c κs within = search sendable

pub starter-requires-send-E : goal.starter-requires-send-E
starter-requires-send-E g c κs within = search sendable

pub starter-requires-send-K : goal.starter-requires-send-K
starter-requires-send-K g c κs within = search sendable
