use Rattle.std.proofs.Common.{◌≡◌, ◌++◌, map}
use Rattle.tp_explore_walk.specs.Moves.{Added}
use Rattle.tp_explore_walk.proofs.graphs.add.Given as goal

abbrev pub invariant-loop-state : goal.invariant-loop-state
invariant-loop-state g l = record {
  added : Added (map g.S.System.seen l.fn.states.keys) (map g.S.System.seen l.states.keys) (map g.S.System.seen l.yielded) l.row.items;
  left : l.yielded ++ l.state-iterator.rest.items ≡ l.fn.moves.items;
}
