use Rattle.tp_scenario.proofs.JobLaws.{job_text-injective}
use Rattle.tp_scenario.proofs.jobs.one_job.Goals as goal

pub returns : goal.returns
returns c = job_text-injective
