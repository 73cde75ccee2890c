use Rattle.std.proofs.Common.{◌<◌, length, map}
use Rattle.tp_explore_walk.specs.Paths.{LeadsTo}
use Rattle.tp_explore_walk.proofs.trails.trail.Given as goal

abbrev pub invariant-loop-at : goal.invariant-loop-at
invariant-loop-at l = record {
  leads : LeadsTo (map (λ row. row.items) l.rows) l.at l.legs.items l.fn.end;
  within : l.at < length l.rows;
}

abbrev pub decreases-loop-at : goal.decreases-loop-at
decreases-loop-at l = l.at
