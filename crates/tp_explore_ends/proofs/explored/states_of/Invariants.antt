use Rattle.std.proofs.Common.{◌≡◌, ◌++◌, map}
use Rattle.tp_explore.specs.Situation.{seen}
use Rattle.tp_explore_ends.proofs.explored.states_of.Given as goal

abbrev pub invariant-loop-made : goal.invariant-loop-made
invariant-loop-made l = record {
  so_far : map seen l.states.items ≡ map (λ m. seen m.after) l.yielded;
  left : l.yielded ++ l.made-iterator.rest.items ≡ l.fn.moves.items;
}
