use Rattle.std.proofs.Common.{◌≡◌, map, take}
use Rattle.tp_explore_walk.specs.Moves.{empties}
use Rattle.tp_explore_walk.proofs.graphs.empty_rows.Given as goal

abbrev pub invariant-loop-i : goal.invariant-loop-i
invariant-loop-i l = l.ends.items ≡ empties 0 (map (λ row. row.items) (take l.i l.rows))
