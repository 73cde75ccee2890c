use Rattle.std.proofs.Common.{◌≡◌, ◌≤◌, [], ◌∷◌, length, map, inl, inr, arith}
use Rattle.std.proofs.lemmas.Bool.{cases_lt}
use Rattle.std.proofs.lemmas.List.{map_push, length-map}
use Rattle.std.proofs.lemmas.List.Elements.{All-contains}
use Rattle.tp_explore_walk.specs.Moves.{Reaches}
use Rattle.tp_explore_walk.proofs.Places.{contained}
use Rattle.tp_explore_walk.proofs.Walked.{walking_none, walking_more, walk_all, key_at, holds_reached}
use Rattle.tp_explore_walk.proofs.graphs.walk.Goals as goal

pub loop-state-init : goal.loop-state-init
loop-state-init g c =
    let one : c.insert.new.self.keys ≡ c.args.first ∷ [] = rw c.new-states.ensures.empty at c.in_ok-insert.ensures.keys in
    record {
      walking = rw (c.new-moves.ensures.items, one) (walking_none _ _);
      so_far = c.new-moves.ensures.len;
    }

pub loop-state-preserved : goal.loop-state-preserved
loop-state-preserved g c =
    let many = length-map c.loop-state.moves.items (λ row. row.items) in
    let at = key_at g.S.System.seen c.loop-state.states.keys c.loop-state.at (length (map (λ row. row.items) c.loop-state.moves.items)) c.in-Some.state.now (omega (arith, many)) c.in-Some.ensures.key in
    record {
      walking = rw (c.in_ok-push.ensures.items, map_push) (walking_more _ _ _ _ _ _ _ c.loop-state.invariant.walking at (rw c.in_ok-reached.ensures at c.in_ok-add.ensures));
      so_far = omega (arith, c.in_ok-push.ensures.len);
    }

pub moves-requires : goal.moves-requires
moves-requires g c =
    let at = key_at g.S.System.seen c.loop-state.states.keys c.loop-state.at c.loop-state.at c.in-Some.state.now (omega arith) c.in-Some.ensures.key in
    let reached = All-contains (Reaches (g.S.System.next c.args.system.now) (g.S.System.seen c.args.first)) _ _ c.loop-state.invariant.walking.sound (contained _ _ _ at) in
    holds_reached _ (g.S.System.holds c.args.system.now) (g.met.S.System.stays c.args.system.now) _ c.requires _ reached

pub returns-clause-walked : goal.returns-clause-walked
returns-clause-walked g c =
    let all = length-map c.loop-state.states.keys g.S.System.seen in
    let many = length-map c.loop-state.moves.items (λ row. row.items) in
    let past : length c.loop-state.states.keys ≤ c.loop-state.at =
    elim (cases_lt c.loop-state.at (length c.loop-state.states.keys)) as (λ _. length c.loop-state.states.keys ≤ c.loop-state.at) [
      | inl lt ↦ let never = c.in_default.ensures.found.1 lt in cc
      | inr le ↦ le
    ] in
    rw c.in_ok-listed.ensures (walk_all _ _ _ _ _ c.loop-state.invariant.walking (omega (arith, all, many)) (rw c.as_slice.ensures.value at c.in_ok-ends.ensures))
