use Rattle.tp_laws.proofs.Model.Told.{told_legal}
use Rattle.tp_laws.proofs.Late.{stopped_never, queued_late_never}
use Rattle.tp_laws.proofs.shutdown.nothing_begins_after_stop.Goals as goal

pub returns-clause-waiting : goal.returns-clause-waiting
returns-clause-waiting c = λ c later e h legal. stopped_never c later e h (told_legal c _ legal)

pub returns-clause-late : goal.returns-clause-late
returns-clause-late c = λ c later e h legal. queued_late_never c later e h (told_legal c _ legal)
