use Rattle.std.proofs.Common.{◌≡◌, [], arith}
use Rattle.std.proofs.lemmas.Grind.{common_steps}
use Rattle.std.proofs.lemmas.List.{map_push, nil_from_length}
use Rattle.tp_explore_walk.proofs.Walked.{added_none, added_more}
use Rattle.tp_explore_walk.proofs.graphs.add.Goals as goal

pub loop-state-init : goal.loop-state-init
loop-state-init g c = record {
  added = rw c.new-row.ensures.items (added_none _);
  left = c.into_iter-state-iterator.ensures.into_iter_gives.0;
}

pub loop-state-preserved : goal.loop-state-preserved
loop-state-preserved g c = record {
  added = rw (c.in_ok-push.ensures.items, map_push) (added_more _ _ _ _ _ _ _ c.loop-state.invariant.added c.in_ok-place.ensures);
  left = grind (arith, common_steps);
}

pub returns : goal.returns
returns g c =
    let rest : c.loop-state.state-iterator.rest.items ≡ [] = nil_from_length _ (omega (arith, c.in-None.ensures.steps.0, c.loop-state.state-iterator.rest.ok.0)) in
    let all : c.loop-state.yielded ≡ c.args.moves.items = grind (arith, common_steps, c.loop-state.invariant.left) in
    rw all at c.loop-state.invariant.added
