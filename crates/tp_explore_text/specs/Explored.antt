-- What was explored.
use Rattle.std.specs.Prelude.{◌≡◌, ◌<◌, ℕ, List, Option, Some, None, true, false, length, map}
use Rattle.std.specs.List.{All}
use Rattle.tp_explore_walk.specs.Moves.{IsAt, IsWalk}
use Rattle.tp_explore.specs.Moves as spec
use Rattle.tp_explore.specs.Moves.{Holds}
use Rattle.tp_explore.specs.Situation.{Situation, seen}
use Rattle.tp_explore_text.specs.Ends.{IsEnd, TellsEnds, has_parts}
use Rattle.tp_explore_text.specs.declared.explored.Explored.{Explored}

-- its graph has just what the interleavings of the plan lead to, and its ends are theirs
pub record IsExplored (e : Explored) : Type 0 where
  pub walked : IsWalk (spec.moves e.named.exploration.plan) (spec.starts e.named.exploration.plan) (map seen e.graph.states.items) (map (λ row. row.items) e.graph.moves.items) e.graph.ends.items
  pub legal : All (λ s. Holds e.named.exploration.plan (seen s)) e.graph.states.items
  pub within : All (λ k. k < length e.graph.states.items) e.graph.ends.items
  pub told : TellsEnds e.named.exploration.plan e.named.labels.items (map seen e.graph.states.items) e.ends.items

-- a place at which an interleaving ends with all these parts; none where no interleaving ends so
abbrev pub FindsEnd : Explored → List (List ℕ) → Option ℕ → Type 0
FindsEnd e parts (Some k) = (z : Situation) × IsAt (map seen e.graph.states.items) k z × IsEnd e.named.exploration.plan z × (has_parts e.named.labels.items z parts ≡ true)
FindsEnd e parts None = (z : Situation) → IsEnd e.named.exploration.plan z → has_parts e.named.labels.items z parts ≡ false
