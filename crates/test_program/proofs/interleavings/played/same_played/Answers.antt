use Rattle.std.proofs.Common.{sym, subst}
use Rattle.std.specs.List.{Contains}
use Rattle.tp_explore_text.proofs.Placed.{end_within}
use Rattle.test_program.proofs.interleavings.played.same_played.Goals as goal

pub is_played-requires-clause-within : goal.is_played-requires-clause-within
is_played-requires-clause-within c =
    let end = c.end-item.result in
    let among = subst (λ l. Contains l end) c.deref-end-items.ensures.value (c.loop-end.end-index, c.loop-end-test.true, sym c.end-item.is) in
    end_within c.args.explored.now c.requires end among
