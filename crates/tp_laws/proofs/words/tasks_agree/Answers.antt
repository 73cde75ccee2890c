use Rattle.tp_laws.proofs.WordsTasks as tasks
use Rattle.tp_laws.proofs.WordsSlots as slots
use Rattle.tp_laws.proofs.WordsQueue as queue
use Rattle.tp_laws.proofs.Model.Told.{told_legal}
use Rattle.tp_laws.proofs.words.tasks_agree.Goals as goal

pub returns-clause-submissions : goal.returns-clause-submissions
returns-clause-submissions c = slots.submissions_agrees

pub returns-clause-submitted : goal.returns-clause-submitted
returns-clause-submitted c = λ c h t legal. tasks.is_submitted_below c h (told_legal c h legal) t

pub returns-clause-kind : goal.returns-clause-kind
returns-clause-kind c = slots.kind_agrees

pub returns-clause-cancelled : goal.returns-clause-cancelled
returns-clause-cancelled c = λ c h t legal. tasks.cancelled_agrees c h (told_legal c h legal) t

pub returns-clause-moment : goal.returns-clause-moment
returns-clause-moment c = slots.moment_agrees

pub returns-clause-priority : goal.returns-clause-priority
returns-clause-priority c = queue.priority_agrees
