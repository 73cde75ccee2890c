use Rattle.std.proofs.Common.{◌≡◌, ◌-◌, map, vec_len}
use Rattle.tp_explore_walk.proofs.Walked.{IsWalking}
use Rattle.tp_explore_walk.proofs.graphs.walk.Given as goal

abbrev pub invariant-loop-state : goal.invariant-loop-state
invariant-loop-state g l = record {
  walking : IsWalking (g.S.System.next l.system) (g.S.System.seen l.fn.first) (map g.S.System.seen l.states.keys) (map (λ row. row.items) l.moves.items);
  so_far : vec_len l.moves ≡ l.at;
}

abbrev pub decreases-loop-state : goal.decreases-loop-state
decreases-loop-state g l = l.most - l.at
