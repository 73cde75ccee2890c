use Rattle.tp_pool.specs.Lives.{IsTold}
use Rattle.tp_pool.proofs.Turned.{both_next}
use Rattle.tp_pool.proofs.lives.tell_each.Goals as goal

pub loop-task-preserved : goal.loop-task-preserved
loop-task-preserved g c =
    both_next (IsTold g.row.J.Denot g.K.Recorder.RECEIPTS (g.K.Recorder.terms g.G.PoolNaming.config)) c.args.tasks.now c.loop-task.task-index _ c.loop-task.answers.items c.push.new.self.items c.told.result c.args.pass.now c.loop-task.pass c.told.new.pass
    c.loop-task-test.true c.in_ok-push.ensures.items c.loop-task.invariant c.told.ensures
