use Rattle.std.proofs.Common.{take}
use Rattle.tp_pool.specs.Lives.{AreTold}
use Rattle.tp_pool.proofs.lives.tell_each.Given as goal

abbrev pub invariant-loop-task : goal.invariant-loop-task
invariant-loop-task g l = AreTold g.row.J.Denot g.K.Recorder.RECEIPTS (g.K.Recorder.terms g.G.PoolNaming.config) (take l.task-index l.tasks) l.answers.items l.fn.pass l.pass
