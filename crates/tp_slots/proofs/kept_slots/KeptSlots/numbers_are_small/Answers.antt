use Rattle.tp_slots.proofs.Numbers.{next_small, kept_small}
use Rattle.tp_slots.proofs.kept_slots.KeptSlots.numbers_are_small.Goals as goal

pub returns-clause-kept : goal.returns-clause-kept
returns-clause-kept c = rw (← c.self.view_is) (kept_small c.self.inside.rows.items c.self.inside.free.items c.self.inside.places c.self.invariant.0)

pub returns-clause-next : goal.returns-clause-next
returns-clause-next c = rw (← c.self.view_is) (next_small c.self.inside.rows.items c.self.inside.free.items c.self.inside.places c.self.invariant.0)
