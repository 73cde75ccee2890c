use Rattle.std.proofs.Common.{ap, ◌∙◌, arith, set, subst, sym, None}
use Rattle.std.specs.Prelude.{is_some}
use Rattle.tp_slots.specs.Keeping.{IsKept, kept_at}
use Rattle.tp_slots.proofs.Numbers.{stands-free}
use Rattle.tp_slots.proofs.kept_slots.KeptSlots.remove.Goals as goal

pub invariant_of-self : goal.invariant_of-self
invariant_of-self c =
    let s = c.self.inside in
    let some = ap (λ t. is_some (kept_at t.slots c.args.w)) c.self.view_is ∙ c.requires in
    let freed = stands-free s.rows.items s.free.items s.places c.self.invariant.0 c.args.w some in (
      subst (λ fs. IsKept (set s.rows.items c.args.w None) fs s.places) (sym c.push_reserved.ensures.items) freed,
      c.self.invariant.1,
      omega (arith, c.self.invariant.2, c.push_reserved.ensures.capacity),
    )
