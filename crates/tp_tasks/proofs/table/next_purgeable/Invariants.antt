use Rattle.std.proofs.Common.{vec_len}
use Rattle.tp_tasks.specs.Table.{KeepsTasks}
use Rattle.tp_tasks.proofs.table.next_purgeable.Given as goal

abbrev pub invariant-loop-tasks : goal.invariant-loop-tasks
invariant-loop-tasks g l = KeepsTasks l.fn.tasks l.tasks

abbrev pub decreases-loop-tasks : goal.decreases-loop-tasks
decreases-loop-tasks g l = vec_len l.tasks.noted
