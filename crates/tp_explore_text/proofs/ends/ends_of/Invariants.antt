use Rattle.std.proofs.Common.{ℕ, List, map, take}
use Rattle.std.specs.List.{AllZip}
use Rattle.tp_explore_walk.specs.Moves.{IsAt}
use Rattle.tp_explore_walk.specs.Paths.{Tells}
use Rattle.tp_explore.specs.Situation.{Situation, seen}
use Rattle.tp_explore_text.specs.Ends.{AreTold}
use Rattle.tp_explore_text.proofs.ends.ends_of.Given as goal

abbrev pub invariant-loop-i : goal.invariant-loop-i
invariant-loop-i l = (zs : List Situation) (ns : List ℕ) → AllZip (IsAt (map seen l.graph.states.items)) (take l.i l.graph.ends.items) zs → AllZip Tells (take l.i l.counts) ns
    → AreTold l.labels (map seen l.graph.states.items) zs ns l.ends.items
