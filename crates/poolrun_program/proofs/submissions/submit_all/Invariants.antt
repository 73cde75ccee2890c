use Rattle.std.proofs.Common.{take}
use Rattle.poolrun_program.specs.Runs.{AddsSubmissions, asked}
use Rattle.poolrun_program.proofs.submissions.submit_all.Given as goal

abbrev pub invariant-loop-job : goal.invariant-loop-job
invariant-loop-job g l = AddsSubmissions (g.K.Recorder.terms g.G.PoolNaming.config) (take l.job-index (asked l.jobs)) l.fn.pass l.pass
