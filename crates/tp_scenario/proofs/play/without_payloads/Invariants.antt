use Rattle.std.proofs.Common.{◌≡◌, map, take}
use Rattle.tp_scenario.proofs.play.without_payloads.Given as goal

abbrev pub invariant-loop-task : goal.invariant-loop-task
invariant-loop-task l = map (λ t. t.0) l.tasks.items ≡ map (λ x. x.0.0) (take l.task-index l.handed)
