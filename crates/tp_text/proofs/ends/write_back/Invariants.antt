use Rattle.std.proofs.Common.{◌≡◌, ◌∷◌, ◌++◌, string_bytes, codes, take}
use Rattle.std.specs.List.{flat_map}
use Rattle.tp_text.specs.EndLines.{task_text}
use Rattle.tp_text.proofs.ends.write_back.Given as goal

abbrev pub invariant-loop-task : goal.invariant-loop-task
invariant-loop-task l = string_bytes l.line ≡ string_bytes l.fn.line ++ (codes "back" ++ flat_map (λ t. 32 ∷ task_text t.0) (take l.task-index l.tasks))
