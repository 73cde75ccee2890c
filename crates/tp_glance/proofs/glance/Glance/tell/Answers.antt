use Rattle.std.proofs.Common.{ap, sym, ◌∙◌, arith}
use Rattle.tp_glance.proofs.Steps.{tells}
use Rattle.tp_glance.proofs.glance.Glance.tell.Goals as goal

pub join_seat-requires : goal.join_seat-requires
join_seat-requires g c =
    let i = c.self.invariant in
    let k = c.known.invariant in
    let words = i.1 in (
      c.requires.0 ∙ sym i.0,
      k.0 ∙ sym i.0,
      ap (λ m. m.1) k.1,
      omega arith,
      tells _ _ _ _ _ _ (ap (λ m. m.0) c.requires.1),
    )
