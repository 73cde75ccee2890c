use Rattle.std.proofs.Common.{sym, ◌∙◌, arith}
use Rattle.tp_glance.proofs.Steps.{looks}
use Rattle.tp_glance.proofs.glance.Glance.take_in.Goals as goal

pub load-requires : goal.load-requires
load-requires g c =
    let i = c.self.invariant in
    let words = i.1 in
    (c.tell.ensures.table ∙ sym i.0, omega arith, looks _ _ _)
