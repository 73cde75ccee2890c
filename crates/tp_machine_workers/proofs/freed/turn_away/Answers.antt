use Rattle.std.proofs.Common.{suc, refl, arith, sym, ap, subst, ◌∙◌}
use Rattle.tp_types.specs.declared.tasks.Place.TheVariants as at
use Rattle.tp_record.specs.State.{slot_at}
use Rattle.tp_slots.specs.Table.{is_reserved_row}
use Rattle.tp_machine_state.proofs.Standing.{given_here, known_here, entry_here}
use Rattle.tp_machine_state.proofs.Leading.{leads_from}
use Rattle.tp_machine_workers.proofs.GivenBack.{IsFirst, is_first, first_reserved, reserved_with, turned_away, first_least}
use Rattle.tp_machine_workers.proofs.Reserved.{reserved_here}
use Rattle.tp_machine_state.specs.Terms.{terms}
use Rattle.tp_machine_workers.proofs.freed.turn_away.Goals as goal

pub count_entry-requires : goal.count_entry-requires
count_entry-requires g c =
    let old = c.args.parts.now in
    let stands = c.requires.stands in
    let f = c.requires.fits in
    let n = c.first_owes-owed.result in
    let was = reserved_with (terms old) stands.history c.args.w c.args.t f.0 f.1 f.2 (given_here old stands f.0 f.1 f.3) in
    let first = is_first (slot_at old.slots.slots c.args.w.0) c.args.t n (reserved_here old stands c.args.w.0 c.args.t was.0) c.first_owes-owed.ensures in
    let seat = stands.shows.seen.seats c.args.w.0 in
    let e = entry_here old stands f.0 f.1 _ n 0 n f.3 (λ given. turned_away (terms old) stands.history c.args.w c.args.t n f.0 f.1 f.2 (subst (λ o. IsFirst o c.args.t n) (sym seat) first) stands.legal given) (omega arith) (first_least _ c.args.t n first) in
    record { few = e.0; fall = e.1 }

pub place_task-requires : goal.place_task-requires
place_task-requires g c =
    let old = c.args.parts.now in
    let stands = c.requires.stands in
    let f = c.requires.fits in
    let was = reserved_with (terms old) stands.history c.args.w c.args.t f.0 f.1 f.2 (given_here old stands f.0 f.1 f.3) in
    record { known = known_here old stands c.count_entry.new.self.tasks c.args.t.0 (at.Held c.args.w) at.Refused (ap (λ p. p.tasks) c.count_entry.ensures.rest) was.1 refl refl }

pub give_up-requires : goal.give_up-requires
give_up-requires g c =
    let old = c.args.parts.now in
    let stands = c.requires.stands in
    let f = c.requires.fits in
    let was = reserved_with (terms old) stands.history c.args.w c.args.t f.0 f.1 f.2 (given_here old stands f.0 f.1 f.3) in
    ap (λ p. is_reserved_row (slot_at p.slots.slots c.args.w.0)) c.place_task.ensures.rest ∙ ap (λ p. is_reserved_row (slot_at p.slots.slots c.args.w.0)) c.count_entry.ensures.rest
    ∙ first_reserved _ c.args.t (reserved_here old stands c.args.w.0 c.args.t was.0)

pub returns-clause-leads : goal.returns-clause-leads
returns-clause-leads g c =
    let old = c.args.parts.now in
    let stands = c.requires.stands in
    let f = c.requires.fits in
    let n = c.first_owes-owed.result in
    let was = reserved_with (terms old) stands.history c.args.w c.args.t f.0 f.1 f.2 (given_here old stands f.0 f.1 f.3) in
    let first = is_first (slot_at old.slots.slots c.args.w.0) c.args.t n (reserved_here old stands c.args.w.0 c.args.t was.0) c.first_owes-owed.ensures in
    let k = c.count_entry.ensures.rest in
    let m = c.place_task.ensures.rest in
    let r = c.give_up.ensures.rest in
    λ a d is fits.
    leads_from old c.give_up.new.self a d n 0 n stands fits
    (λ h rs legal given sh. (
      _,
      turned_away (terms old) h c.args.w c.args.t n a d is (subst (λ o. IsFirst o c.args.t n) (sym (sh.seen.seats c.args.w.0)) first) legal given,
      c.give_up.ensures.views _ (c.place_task.ensures.views _ (c.count_entry.ensures.views _ sh.seen)),
    ))
    (omega arith) (ap terms r ∙ ap terms m ∙ ap terms k) (ap (λ p. p.steps) r ∙ ap (λ p. p.steps) m ∙ ap (λ p. p.steps) k) (ap (λ p. p.due) r ∙ ap (λ p. p.due) m ∙ ap (λ p. p.due) k)
    (λ tied. c.give_up.ensures.tied (terms old) (suc old.steps) (c.place_task.ensures.tied (terms old) (suc old.steps) (c.count_entry.ensures.tied (terms old) (suc old.steps) tied)))
