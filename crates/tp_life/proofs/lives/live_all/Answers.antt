use Rattle.std.proofs.Common.{◌≡◌, length, IsSomeAnd, slice_index_or, subst, arith, rules}
use Rattle.tp_life.proofs.lives.live_all.Goals as goal

pub returns-clause-lived : goal.returns-clause-lived
returns-clause-lived g c i d below =
    let many : length c.for_each_mut.new.s ≡ length c.args.callers.now = search rules in
    let at = (c.for_each_mut.ensures i d (omega (arith, below, many))).1 in
    let leaves = g.L.Life.leaves c.args.life.now (g.K.Recorder.terms g.G.PoolNaming.config) in
    let called = at.call in
    let lived : IsSomeAnd at.after_call.now.out (leaves at.argument.now.who at.argument.now.seat.pass at.after_call.now.seat.pass) = search (rules, called) in
    let left = subst (λ k. IsSomeAnd k.out (leaves at.argument.now.who at.argument.now.seat.pass k.seat.pass)) at.left lived in
    let new = slice_index_or c.for_each_mut.new.s i d in
    subst (λ k. IsSomeAnd new.out (leaves k.who k.seat.pass new.seat.pass)) at.argument_is left
