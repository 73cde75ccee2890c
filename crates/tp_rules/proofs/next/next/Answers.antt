use Rattle.std.proofs.Common.{arith}
use Rattle.tp_rules.proofs.Sizes.{length-tasks_after, tasks_after_retries, length-queue_after}
use Rattle.tp_rules.proofs.next.next.Goals as goal
use Rattle.tp_rules.proofs.next.next.Goals.{then-is_completion, else-is_completion}

pub returns-clause-small : goal.returns-clause-small
returns-clause-small c =
    let s = c.args.state.now in
    let rows = s.tasks.items in
    let d = c.args.did in
    record {
      steps = omega (arith, c.requires.steps);
      tasks = rw c.in_ok-tasks_after.ensures.rows (omega (arith, c.requires.tasks, length-tasks_after d rows));
      retries = λ t. rw c.in_ok-tasks_after.ensures.rows (tasks_after_retries d 1048576 rows t c.requires.retries);
      queue = rw c.in_ok-queue_after.ensures.tasks (omega (arith, c.requires.queue, length-queue_after s.ranked d rows s.queue.items));
      slots = omega (arith, c.in_ok-slots.slots.ok.0, c.in_ok-slots.ensures.bound);
      completions = elim c.if-is_completion.branch [ then-is_completion w ↦ omega (arith, c.requires.completions) | else-is_completion w ↦ omega (arith, c.requires.completions) ];
    }
