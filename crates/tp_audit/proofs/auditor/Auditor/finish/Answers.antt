use Rattle.tp_audit.proofs.Judging.{few_tasks, few_live, largest_shown, rank_shown}
use Rattle.tp_audit.proofs.Standing.{queue_shown}
use Rattle.tp_audit.proofs.auditor.Auditor.finish.Goals as goal

pub counts-requires-clause-tasks : goal.counts-requires-clause-tasks
counts-requires-clause-tasks c = few_tasks c.self.inside.config c.self.invariant.0 c.self.inside.tables c.self.invariant.1

pub counts-requires-clause-queue : goal.counts-requires-clause-queue
counts-requires-clause-queue c = queue_shown c.self.inside.config c.self.invariant.0 c.self.inside.tables c.self.invariant.1

pub counts-requires-clause-live : goal.counts-requires-clause-live
counts-requires-clause-live c = few_live c.self.inside.config c.self.invariant.0 c.self.inside.tables c.self.invariant.1

pub counts-requires-clause-largest : goal.counts-requires-clause-largest
counts-requires-clause-largest c = largest_shown c.self.inside.config c.self.invariant.0 c.self.inside.tables c.self.invariant.1

pub from_rank-requires : goal.from_rank-requires
from_rank-requires c = rank_shown c.self.inside.config c.self.invariant.0 c.self.inside.tables c.self.invariant.1
