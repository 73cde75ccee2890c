use Rattle.std.proofs.Common.{◌≡◌, length, map, take}
use Rattle.tp_explore_walk.specs.Paths.{AreFirsts}
use Rattle.tp_explore_walk.proofs.Firsts.{AreFirstsSo}
use Rattle.tp_explore_walk.proofs.trails.firsts.Given as goal

abbrev pub invariant-loop-from : goal.invariant-loop-from
invariant-loop-from l = record {
  firsts : AreFirsts (map (λ row. row.items) l.rows) l.from l.firsts.items;
  len : length l.firsts.items ≡ length l.rows;
}

abbrev pub invariant-loop-choice : goal.invariant-loop-choice
invariant-loop-choice l = record {
  firsts : AreFirstsSo (map (λ row. row.items) l.rows) l.from (take l.choice l.to-items) l.firsts.items;
  len : length l.firsts.items ≡ length l.rows;
}
