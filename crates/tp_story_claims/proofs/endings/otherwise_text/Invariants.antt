use Rattle.std.proofs.Common.{◌≡◌, take}
use Rattle.std.specs.List.{flat_map}
use Rattle.tp_story_claims.specs.Endings.{end_line}
use Rattle.tp_story_claims.proofs.endings.otherwise_text.Given as goal

abbrev pub invariant-loop-ends : goal.invariant-loop-ends
invariant-loop-ends l = l.text.items ≡ flat_map (end_line l.form) (take l.ends-index l.found)
