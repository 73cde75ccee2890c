use Rattle.std.proofs.Common.{◌≡◌, map, take}
use Rattle.std.specs.List.{All, flat_map}
use Rattle.tp_explore.specs.Moves as spec
use Rattle.tp_explore.specs.Situation.{seen}
use Rattle.tp_explore.proofs.moves.moves.Given as goal

abbrev pub invariant-loop-deed : goal.invariant-loop-deed
invariant-loop-deed l = record {
  after : map (λ m. seen m.after) l.moves.items ≡ flat_map (spec.made l.plan (seen l.state)) (take l.deed-index (spec.deeds l.plan (seen l.state)));
  each : All (λ m. spec.IsMove l.plan (seen l.state) m) l.moves.items;
}
