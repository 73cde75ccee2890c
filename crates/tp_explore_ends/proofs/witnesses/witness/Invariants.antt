use Rattle.std.proofs.Common.{map, drop}
use Rattle.tp_explore.specs.Situation.{seen}
use Rattle.tp_explore_ends.proofs.Steps.{IsFollowed}
use Rattle.tp_explore_ends.proofs.witnesses.witness.Given as goal

abbrev pub invariant-loop-leg : goal.invariant-loop-leg
invariant-loop-leg l =
    IsFollowed l.exploration.plan (map seen l.graph.states.items) (map (λ row. row.items) l.graph.moves.items) l.way.items (drop l.leg-index l.leg-items) l.fn.end
