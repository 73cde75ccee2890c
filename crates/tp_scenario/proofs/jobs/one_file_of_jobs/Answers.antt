use Rattle.tp_scenario.proofs.JobLaws.{one_file}
use Rattle.tp_scenario.proofs.jobs.one_file_of_jobs.Goals as goal

pub returns : goal.returns
returns c = one_file
