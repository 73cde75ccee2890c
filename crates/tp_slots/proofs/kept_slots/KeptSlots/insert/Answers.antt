use Rattle.std.proofs.Common.{arith, subst, None, Some}
use Rattle.std.proofs.lemmas.Option.{slice_get_within, get_or_from_slice_get}
use Rattle.tp_slots.specs.Keeping.{IsKept}
use Rattle.tp_slots.proofs.Numbers.{changed-fill, last_vacant, stands-fill}
use Rattle.tp_slots.proofs.kept_slots.KeptSlots.insert.Goals as goal

pub invariant_of-self-2 : goal.invariant_of-self-2
invariant_of-self-2 c =
    let s = c.self.inside in
    let sound = subst (λ fs. IsKept s.rows.items fs s.places) c.in-Some.ensures.items c.self.invariant.0 in (
      stands-fill s.rows.items c.pop.new.self.items c.in-Some.w s.places c.args.slot sound,
      c.self.invariant.1,
      omega (arith, c.self.invariant.2, c.in-Some.ensures.capacity),
    )

pub returns-clause-was_vacant : goal.returns-clause-was_vacant
returns-clause-was_vacant c =
    let s = c.self.inside in
    let sound = subst (λ fs. IsKept s.rows.items fs s.places) c.in-Some.ensures.items c.self.invariant.0 in
    rw (← c.self.view_is) (get_or_from_slice_get s.rows.items c.in-Some.w None None (last_vacant s.rows.items c.pop.new.self.items c.in-Some.w s.places sound))

pub returns-clause-kept : goal.returns-clause-kept
returns-clause-kept c =
    let s = c.self.inside in
    let sound = subst (λ fs. IsKept s.rows.items fs s.places) c.in-Some.ensures.items c.self.invariant.0 in
    let empty = last_vacant s.rows.items c.pop.new.self.items c.in-Some.w s.places sound in
    rw (← c.self.view_is) (changed-fill s.rows.items c.in-Some.w (Some c.args.slot) (slice_get_within s.rows.items c.in-Some.w None empty))
