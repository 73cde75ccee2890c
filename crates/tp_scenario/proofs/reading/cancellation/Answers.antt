use Rattle.std.proofs.Common.{refl}
use Rattle.tp_scenario.proofs.SubmissionLaws.{no_cancel, no_flag}
use Rattle.tp_scenario.proofs.reading.cancellation.Goals as goal

pub returns-in_err-task : goal.returns-in_err-task
returns-in_err-task c = rw c.from_residual.ensures (no_cancel _ _ _ c.first_word.ensures (λ t f e s. c.in_err-task.ensures t f e))

pub returns-in-Some : goal.returns-in-Some
returns-in-Some c = no_cancel _ _ _ c.first_word.ensures (λ t f e. no_flag _ c.in-Some.field-0.now (rw c.in-Some.is refl) c.in-Some.not-flag)
