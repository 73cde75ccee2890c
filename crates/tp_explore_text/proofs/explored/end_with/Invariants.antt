use Rattle.std.proofs.Common.{◌≡◌, false, take, map}
use Rattle.std.specs.Prelude.{string_bytes}
use Rattle.std.specs.List.{All}
use Rattle.tp_explore_walk.specs.Moves.{IsAt}
use Rattle.tp_explore.specs.Situation.{Situation, seen}
use Rattle.tp_explore_text.specs.Ends.{has_parts}
use Rattle.tp_explore_text.proofs.explored.end_with.Given as goal

abbrev pub invariant-loop-place : goal.invariant-loop-place
invariant-loop-place l = All (λ k. (z : Situation) → IsAt (map seen l.explored.graph.states.items) k z → has_parts l.explored.named.labels.items z (map string_bytes l.parts) ≡ false) (take l.place-index l.explored.graph.ends.items)
