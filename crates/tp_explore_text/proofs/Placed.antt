-- Places that are told are those of states.
use Rattle.std.proofs.Common.{◌≡◌, ◌<◌, ℕ, length, map, arith}
use Rattle.std.specs.List.{Contains}
use Rattle.std.proofs.lemmas.List.{length-map}
use Rattle.std.proofs.lemmas.List.Elements.{All-contains}
use Rattle.std.proofs.lemmas.Option.{slice_get_within}
use Rattle.tp_explore_walk.specs.Moves.{IsAt}
use Rattle.tp_explore.specs.Situation.{Situation, seen}
use Rattle.tp_explore_text.specs.declared.ends.End.{End}
use Rattle.tp_explore_text.specs.declared.explored.Explored.{Explored}
use Rattle.tp_explore_text.specs.Ends.{IsEnd, end_text, text_of}
use Rattle.tp_explore_text.specs.Explored.{IsExplored}

-- where a situation is seen there is a state
pub seen_within : (e : Explored) (k : ℕ) (z : Situation) → IsAt (map seen e.graph.states.items) k z → k < length e.graph.states.items
seen_within e k z at =
    let lt = slice_get_within (map seen e.graph.states.items) k z at in
    let long = length-map e.graph.states.items seen in
    omega (arith, lt, long)

-- an end's place is that of a state
pub end_within : (e : Explored) → IsExplored e → (end : End) → Contains e.ends.items end → end.place < length e.graph.states.items
end_within e is end among =
    let placed = All-contains (λ x. (z : Situation) × IsAt (map seen e.graph.states.items) x.place z × IsEnd e.named.exploration.plan z × (end_text e.named.labels.items z ≡ text_of x))
    e.ends.items end is.told.placed among in
    seen_within e end.place placed.0 placed.1
