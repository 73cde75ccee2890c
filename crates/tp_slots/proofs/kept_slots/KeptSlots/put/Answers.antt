use Rattle.std.proofs.Common.{ap, ◌∙◌}
use Rattle.std.specs.Prelude.{is_some}
use Rattle.tp_slots.specs.Keeping.{kept_at}
use Rattle.tp_slots.proofs.Numbers.{stands-put}
use Rattle.tp_slots.proofs.kept_slots.KeptSlots.put.Goals as goal

pub invariant_of-self : goal.invariant_of-self
invariant_of-self c =
    let some = ap (λ s. is_some (kept_at s.slots c.args.w)) c.self.view_is ∙ c.requires in
    (stands-put c.self.inside.rows.items c.self.inside.free.items c.self.inside.places c.self.invariant.0 c.args.w c.args.slot some, c.self.invariant.1, c.self.invariant.2)
