use Rattle.std.proofs.Common.{◌≡◌, ◌++◌, take}
use Rattle.std.specs.Prelude.{codes, string_bytes}
use Rattle.std.specs.List.{flat_map}
use Rattle.tp_explore.specs.Situation.{seen}
use Rattle.tp_explore_text.specs.Ends.{task_text}
use Rattle.tp_explore_text.proofs.ends.write_tasks.Given as goal

abbrev pub invariant-loop-label : goal.invariant-loop-label
invariant-loop-label l = string_bytes l.line ≡ string_bytes l.fn.line ++ flat_map (λ s. task_text (seen l.state) s ++ codes "; ") (take l.label-index l.labels)
