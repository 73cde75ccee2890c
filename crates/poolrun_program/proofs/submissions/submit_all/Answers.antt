use Rattle.poolrun_program.proofs.Followed.{breaks_off, next_submission}
use Rattle.poolrun_program.proofs.submissions.submit_all.Goals as goal

pub loop-job-preserved : goal.loop-job-preserved
loop-job-preserved g c =
    next_submission (g.K.Recorder.terms g.G.PoolNaming.config) c.args.pass.now c.loop-job.pass c.submit.new.pass c.args.jobs.now c.loop-job.job-index _ c.loop-job-test.true c.loop-job.invariant c.in_default.ensures.whole

pub returns-in-Err-clause-refused : goal.returns-in-Err-clause-refused
returns-in-Err-clause-refused g c =
    breaks_off g.K.Recorder.RECEIPTS (g.K.Recorder.terms g.G.PoolNaming.config) c.args.pass.now c.loop-job.pass c.submit.new.pass c.args.jobs.now c.loop-job.job-index _ c.in-Err.error c.loop-job-test.true c.loop-job.invariant c.in-Err.ensures.refused
