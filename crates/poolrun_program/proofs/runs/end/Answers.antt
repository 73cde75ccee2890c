use Rattle.poolrun_program.proofs.Ends.{adds_own_end}
use Rattle.poolrun_program.proofs.runs.end.Goals as goal

pub returns-in-Ok-await_termination-clause-ends : goal.returns-in-Ok-await_termination-clause-ends
returns-in-Ok-await_termination-clause-ends g c = λ by_itself.
    adds_own_end (g.K.Recorder.terms g.G.PoolNaming.config) c.args.pass.now c.shutdown.new.pass c.ends_by_itself.new.pass c.await_termination.new.pass c.in_default.ensures.steps
    (c.in-Ok.ensures.untouched by_itself) c.in-Ok-await_termination.ensures.steps c.in-Ok-await_termination.ensures.seen
