use Rattle.std.proofs.Common.{◌≡◌, ◌++◌}
use Rattle.tp_pool.specs.Lives.{AreSubmitted}
use Rattle.tp_pool.proofs.lives.submit_each.Given as goal

abbrev pub invariant-loop-job : goal.invariant-loop-job
invariant-loop-job g l =
    (goal.iterator-loop-job g).can_next l.job-iterator × (goal.iterator-loop-job g).is_finite l.job-iterator
    × (l.yielded ++ l.job-iterator.rest.items ≡ l.initial.job-iterator.rest.items)
    × AreSubmitted g.K.Recorder.RECEIPTS (g.K.Recorder.terms g.G.PoolNaming.config) g.J.Job.promised g.J.Job.urgency l.yielded l.tasks.items l.fn.pass l.pass
