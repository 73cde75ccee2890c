use Rattle.tp_laws.proofs.WordsTasks as tasks
use Rattle.tp_laws.proofs.Model.Told.{told_legal}
use Rattle.tp_laws.proofs.words.places_agree.Goals as goal

pub returns-clause-queued : goal.returns-clause-queued
returns-clause-queued c = λ c h t legal. tasks.queued_agrees c h (told_legal c h legal) t

pub returns-clause-slot : goal.returns-clause-slot
returns-clause-slot c = λ c h t legal. tasks.in_slot_agrees c h (told_legal c h legal) t

pub returns-clause-held : goal.returns-clause-held
returns-clause-held c = λ c h w t legal. tasks.held_agrees c h (told_legal c h legal) w t

pub returns-clause-taken : goal.returns-clause-taken
returns-clause-taken c = λ c h w t legal. tasks.taken_agrees c h (told_legal c h legal) w t

pub returns-clause-running : goal.returns-clause-running
returns-clause-running c = λ c h w t legal. tasks.running_agrees c h (told_legal c h legal) w t

pub returns-clause-submitter : goal.returns-clause-submitter
returns-clause-submitter c = λ c h t legal. tasks.submitter_agrees c h (told_legal c h legal) t

pub returns-clause-caller : goal.returns-clause-caller
returns-clause-caller c = λ c h t legal. tasks.caller_agrees c h (told_legal c h legal) t

pub returns-clause-gone : goal.returns-clause-gone
returns-clause-gone c = λ c h t legal below. tasks.gone_below c h (told_legal c h legal) t below
