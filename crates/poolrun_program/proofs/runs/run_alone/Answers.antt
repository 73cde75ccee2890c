use Rattle.std.proofs.lemmas.Result.{IfOk-weaker}
use Rattle.poolrun_program.specs.Runs.{asked}
use Rattle.poolrun_program.proofs.Ends.{is_run}
use Rattle.poolrun_program.proofs.runs.run_alone.Goals as goal

pub returns-clause-run : goal.returns-clause-run
returns-clause-run g c = IfOk-weaker c.lived.result _ _ (is_run c.args.jobs.now.config (asked c.args.jobs.now.jobs.items)) c.lived.ensures.run
