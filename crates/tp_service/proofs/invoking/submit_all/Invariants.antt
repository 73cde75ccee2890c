use Rattle.std.proofs.Common.{◌≡◌, ◌++◌, length, vec_capacity}
use Rattle.tp_service.specs.Submitted.{AddsSubmissions}
use Rattle.tp_service.proofs.invoking.submit_all.Given as goal

abbrev pub invariant-loop-job : goal.invariant-loop-job
invariant-loop-job g l =
    (goal.iterator-loop-job g).can_next l.job-iterator × (goal.iterator-loop-job g).is_finite l.job-iterator
    × (length l.tasks.items ≡ length l.yielded) × (vec_capacity l.tasks ≡ vec_capacity l.initial.tasks)
    × (l.yielded ++ l.job-iterator.rest.items ≡ l.initial.job-iterator.rest.items)
    × AddsSubmissions (g.K.Recorder.terms g.G.PoolNaming.config) g.J.Job.promised g.J.Job.urgency l.yielded l.tasks.items l.fn.pass l.pass
