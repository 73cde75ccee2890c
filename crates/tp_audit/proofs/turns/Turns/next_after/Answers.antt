use Rattle.std.proofs.Common.{◌^◌, sym, arith}
use Rattle.tp_audit.proofs.Walking.{next_below}
use Rattle.tp_audit.proofs.turns.Turns.next_after.Goals as goal

pub overflow_cast-result : goal.overflow_cast-result
overflow_cast-result c =
    let below = next_below (2 ^ 32) c.args.t c.self.inside.order c.in-Some.next c.self.invariant (sym c.in-Some.ensures) in
    omega (arith, below)
