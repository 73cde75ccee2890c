use Rattle.tp_laws.proofs.WordsIdle.{idle_line_agrees}
use Rattle.tp_laws.proofs.WordsSlots as slots
use Rattle.tp_laws.proofs.Model.Told.{told_legal}
use Rattle.tp_laws.proofs.words.slots_agree.Goals as goal

pub returns-clause-slots : goal.returns-clause-slots
returns-clause-slots c = slots.slot_agrees

pub returns-clause-seat : goal.returns-clause-seat
returns-clause-seat c = λ c h w t legal. slots.seat_agrees c h (told_legal c h legal) w t

pub returns-clause-reserved : goal.returns-clause-reserved
returns-clause-reserved c = λ c h w r legal. slots.reserved_agrees c h (told_legal c h legal) w r

pub returns-clause-live : goal.returns-clause-live
returns-clause-live c = λ c h w legal. slots.live_agrees c h (told_legal c h legal) w

pub returns-clause-busy : goal.returns-clause-busy
returns-clause-busy c = λ c h w legal. slots.busy_agrees c h (told_legal c h legal) w

pub returns-clause-idle : goal.returns-clause-idle
returns-clause-idle c = slots.idle_agrees

pub returns-clause-order : goal.returns-clause-order
returns-clause-order c = λ c h legal. idle_line_agrees c h (told_legal c h legal)

pub returns-clause-dying : goal.returns-clause-dying
returns-clause-dying c = slots.dying_agrees

pub returns-clause-taking : goal.returns-clause-taking
returns-clause-taking c = λ c h w legal. slots.taking_agrees c h (told_legal c h legal) w

pub returns-clause-count : goal.returns-clause-count
returns-clause-count c = λ c h legal. slots.live_slots_agree c h (told_legal c h legal)

pub returns-clause-largest : goal.returns-clause-largest
returns-clause-largest c = λ c h legal. slots.largest_agrees c h (told_legal c h legal)
