use Rattle.std.proofs.Common.{◌≡◌, ◌≤◌, ◌*◌, take}
use Rattle.std.specs.Prelude.{sum_by}
use Rattle.tp_record.specs.State.{task_weight}
use Rattle.tp_rules.proofs.weights.tasks_weight.Given as goal

abbrev pub invariant-loop-row : goal.invariant-loop-row
invariant-loop-row l = (l.sum ≡ sum_by (task_weight l.slots) (take l.row-index l.tasks)) × (l.sum ≤ 17 * l.row-index)
