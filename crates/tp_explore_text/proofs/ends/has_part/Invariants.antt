use Rattle.std.proofs.Common.{◌≡◌, false, take, bytes_eq}
use Rattle.std.specs.List.{list_any}
use Rattle.tp_explore.specs.Situation.{seen}
use Rattle.tp_explore_text.specs.Ends.{task_text}
use Rattle.tp_explore_text.proofs.ends.has_part.Given as goal

abbrev pub invariant-loop-label : goal.invariant-loop-label
invariant-loop-label l = list_any (λ s. bytes_eq (task_text (seen l.state) s) l.part) (take l.label-index l.labels) ≡ false
