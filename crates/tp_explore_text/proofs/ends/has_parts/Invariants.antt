use Rattle.std.proofs.Common.{◌≡◌, true, take}
use Rattle.std.specs.Prelude.{string_bytes}
use Rattle.std.specs.List.{list_all}
use Rattle.tp_explore.specs.Situation.{seen}
use Rattle.tp_explore_text.specs.Ends.{has_part}
use Rattle.tp_explore_text.proofs.ends.has_parts.Given as goal

abbrev pub invariant-loop-part : goal.invariant-loop-part
invariant-loop-part l = list_all (λ p. has_part l.labels (seen l.state) (string_bytes p)) (take l.part-index l.parts) ≡ true
