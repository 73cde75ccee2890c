use Rattle.std.proofs.lemmas.Option.{none-some, same_Some}
use Rattle.tp_scenario.proofs.JobLaws.{no_job, no_job_word}
use Rattle.tp_scenario.proofs.jobs.job_of.Goals as goal

pub returns-in_err-rest : goal.returns-in_err-rest
returns-in_err-rest c = rw c.from_residual.ensures (no_job _ _ _ c.first_word.ensures (λ j f e s. let x = rw c.in_err-rest.was at s in none-some _ x))

pub returns-in_err-outcome : goal.returns-in_err-outcome
returns-in_err-outcome c = rw c.from_residual-in_err-outcome.ensures (no_job _ _ _ c.first_word.ensures (λ j f e s. let x = rw c.in_ok-rest.was at s in c.in_err-outcome.ensures (j.outcome, j.priority) f (same_Some _ _ x)))

pub returns-in_default : goal.returns-in_default
returns-in_default c = no_job _ _ _ c.first_word.ensures (λ j f e s. no_job_word _ c.in_default.not-execute c.in_default.not-submit j.future e)
