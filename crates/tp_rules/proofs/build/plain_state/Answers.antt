use Rattle.std.proofs.Common.{arith, reverse, ◌≤◌, length}
use Rattle.std.proofs.lemmas.List.{length-reverse}
use Rattle.tp_rules.proofs.Sizes.{rows_retries, length-task_rows, length-queue}
use Rattle.tp_rules.proofs.build.plain_state.Goals as goal

pub returns-clause-small : goal.returns-clause-small
returns-clause-small c =
    let es = c.args.entries.now in
    let long : length (reverse es) ≤ 1048576 = omega (arith, length-reverse es, c.requires) in
    record {
      steps = c.requires;
      tasks = rw c.in_ok-tasks.ensures.rows (omega (arith, length-task_rows (reverse es)));
      retries = λ t. rw c.in_ok-tasks.ensures.rows (omega (arith, rows_retries (reverse es) t));
      queue = rw c.in_ok-queue.ensures.tasks (omega (arith, length-queue c.args.config.now (reverse es)));
      slots = omega (arith, c.in_ok-slots.field-0.ok.0, c.in_ok-slots.ensures.bound);
      completions = omega (arith, c.completions.ensures.bound);
    }
