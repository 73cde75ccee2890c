use Rattle.std.proofs.Common.{◌≡◌, arith}
use Rattle.tp_pool_holds.proofs.locked.Locked.busy.Goals as goal

pub returns-clause-busy : goal.returns-clause-busy
returns-clause-busy g c =
    let last : c.loop-w.w ≡ 1024 = let least = c.loop-w-test.false in let most = c.loop-w.auto.w-end in omega (arith, least, most) in
    record { most = c.loop-w.w; all = last; are = c.loop-w.invariant }
