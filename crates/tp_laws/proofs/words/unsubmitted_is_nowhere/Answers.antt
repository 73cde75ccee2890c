use Rattle.tp_laws.proofs.WordsTasks as tasks
use Rattle.tp_laws.proofs.Model.Told.{told_legal}
use Rattle.tp_laws.proofs.words.unsubmitted_is_nowhere.Goals as goal

pub returns-clause-queued : goal.returns-clause-queued
returns-clause-queued c = λ c h t legal past. tasks.queued_past c h (told_legal c h legal) t past

pub returns-clause-slot : goal.returns-clause-slot
returns-clause-slot c = λ c h t legal past. tasks.in_slot_past c h (told_legal c h legal) t past

pub returns-clause-submitter : goal.returns-clause-submitter
returns-clause-submitter c = λ c h t legal past. tasks.submitter_past c h (told_legal c h legal) t past

pub returns-clause-caller : goal.returns-clause-caller
returns-clause-caller c = λ c h t legal past. tasks.caller_past c h (told_legal c h legal) t past

pub returns-clause-gone : goal.returns-clause-gone
returns-clause-gone c = λ c h t legal past. tasks.gone_past c h (told_legal c h legal) t past

pub returns-clause-row : goal.returns-clause-row
returns-clause-row c = λ c h t legal past. tasks.place_past c h (told_legal c h legal) t past
