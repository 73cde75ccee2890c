use Rattle.std.proofs.Common.{arith, ap, ◌∙◌}
use Rattle.std.specs.Prelude.{count_by}
use Rattle.tp_record.specs.State.{State, task_at}
use Rattle.tp_audit.proofs.Standing.{once_shown, queue_shown}
use Rattle.tp_audit.proofs.readings.TablesFullReadings.cancelled_count.Goals as goal

pub count_cancelled-requires-clause-once : goal.count_cancelled-requires-clause-once
count_cancelled-requires-clause-once c = once_shown c.args._config.now c.requires.0 c.args.self.now c.requires.1

pub count_cancelled-requires-clause-few : goal.count_cancelled-requires-clause-few
count_cancelled-requires-clause-few c =
    let few = queue_shown c.args._config.now c.requires.0 c.args.self.now c.requires.1 in
    omega (arith, few)

pub returns : goal.returns
returns c = λ s sh. c.count_cancelled.ensures ∙ ap (λ (x : State). count_by (λ t. (task_at x t).cancelled) x.queue) sh.kept
