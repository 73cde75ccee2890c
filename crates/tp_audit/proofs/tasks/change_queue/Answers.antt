use Rattle.tp_audit.specs.Queued.{tasks_of}
use Rattle.tp_audit.proofs.Entries.{queue_two}
use Rattle.tp_audit.proofs.Ranking.{keeps_both}
use Rattle.tp_audit.proofs.tasks.change_queue.Goals as goal

pub returns-clause-tasks : goal.returns-clause-tasks
returns-clause-tasks c =
    queue_two c.args.did c.args.tasks.now (tasks_of c.args.queue.now) (tasks_of c.leave_queue.new.queue) (tasks_of c.leave_queue-2.new.queue) c.named_task.result c.dropped_task.result
    c.requires.narrow c.named_task.ensures c.dropped_task.ensures c.leave_queue.ensures.tasks c.leave_queue-2.ensures.tasks

pub returns-clause-kept : goal.returns-clause-kept
returns-clause-kept c = keeps_both c.args.queue.now c.leave_queue.new.queue c.leave_queue-2.new.queue c.leave_queue.ensures.kept c.leave_queue-2.ensures.kept
