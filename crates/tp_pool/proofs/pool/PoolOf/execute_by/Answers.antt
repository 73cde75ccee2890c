use Rattle.tp_pool.proofs.Submissions.{admits_behind, refuses_behind}
use Rattle.tp_pool.proofs.pool.PoolOf.execute_by.Goals as goal

pub returns-in-Ok-clause-admitted : goal.returns-in-Ok-clause-admitted
returns-in-Ok-clause-admitted g c =
    admits_behind (g.K.Recorder.terms g.G.PoolNaming.config) c.args.step.kind c.args.step.priority c.args.job c.args.step.promise c.args.pass.now c.reserve.new.pass c.submit.new.pass c.submit.result c.reserve.ensures.same c.submit.ensures.admitted

pub returns-in-Ok-clause-refused : goal.returns-in-Ok-clause-refused
returns-in-Ok-clause-refused g c =
    refuses_behind (g.K.Recorder.terms g.G.PoolNaming.config) c.args.step.kind c.args.step.priority c.args.job c.args.step.promise g.K.Recorder.RECEIPTS c.args.pass.now c.reserve.new.pass c.submit.new.pass c.submit.result c.reserve.ensures.same c.submit.ensures.refused
