use Rattle.std.proofs.Common.{suc, refl, ap, ◌∙◌, arith}
use Rattle.tp_record.specs.declared.entries.Ask.TheVariants as ask
use Rattle.tp_record.specs.declared.entries.Did.TheVariants as did
use Rattle.tp_types.specs.declared.tasks.Place.TheVariants as at
use Rattle.tp_record.specs.declared.entries.Failed.TheVariants as failed
use Rattle.tp_laws.proofs.Effects.Workers.Fail.{fail_offer}
use Rattle.tp_machine_state.proofs.Standing.{given_here, known_here, entry_here, seat_here}
use Rattle.tp_machine_state.proofs.Leading.{leads_from}
use Rattle.tp_record.specs.State.{slot_at}
use Rattle.tp_slots.specs.Table.{is_reserved_row}
use Rattle.tp_machine_state.specs.Terms.{terms}
use Rattle.tp_machine_workers.proofs.fail.offer.Goals as goal

pub count_entry-requires : goal.count_entry-requires
count_entry-requires g c =
    let old = c.args.parts.now in
    let stands = c.requires.stands in
    let e = entry_here old stands (ask.Fail c.args.w) (did.Fail c.args.w (failed.Offer c.args.t)) _ 1 0 1 c.requires.fits (λ given. fail_offer (terms old) stands.history c.args.w c.args.t stands.legal given) refl (omega arith) in
    record { few = e.0; fall = e.1 }

pub place_task-requires : goal.place_task-requires
place_task-requires g c =
    let old = c.args.parts.now in
    let given = given_here old c.requires.stands (ask.Fail c.args.w) (did.Fail c.args.w (failed.Offer c.args.t)) c.requires.fits in
    record { known = known_here old c.requires.stands c.count_entry.new.self.tasks c.args.t.0 (at.Held c.args.w) at.ToOffer (ap (λ p. p.tasks) c.count_entry.ensures.rest) given.1 refl refl }

pub returns-clause-leads : goal.returns-clause-leads
returns-clause-leads g c =
    let old = c.args.parts.now in
    let k = c.count_entry.ensures.rest in
    let m = c.place_task.ensures.rest in
    let r = c.give_up.ensures.rest in
    leads_from old c.give_up.new.self (ask.Fail c.args.w) (did.Fail c.args.w (failed.Offer c.args.t)) 1 0 1 c.requires.stands c.requires.fits
    (λ h rs legal given sh. (_, fail_offer (terms old) h c.args.w c.args.t legal given, c.give_up.ensures.views _ (c.place_task.ensures.views _ (c.count_entry.ensures.views _ sh.seen))))
    refl (ap terms r ∙ ap terms m ∙ ap terms k) (ap (λ p. p.steps) r ∙ ap (λ p. p.steps) m ∙ ap (λ p. p.steps) k) (ap (λ p. p.due) r ∙ ap (λ p. p.due) m ∙ ap (λ p. p.due) k)
    (λ tied. c.give_up.ensures.tied (terms old) (suc old.steps) (c.place_task.ensures.tied (terms old) (suc old.steps) (c.count_entry.ensures.tied (terms old) (suc old.steps) tied)))

pub give_up-requires : goal.give_up-requires
give_up-requires g c =
    let old = c.args.parts.now in
    let stands = c.requires.stands in
    let given = given_here old stands (ask.Fail c.args.w) (did.Fail c.args.w (failed.Offer c.args.t)) c.requires.fits in
    ap (λ p. is_reserved_row (slot_at p.slots.slots c.args.w.0)) c.place_task.ensures.rest ∙ ap (λ p. is_reserved_row (slot_at p.slots.slots c.args.w.0)) c.count_entry.ensures.rest
    ∙ ap is_reserved_row (seat_here old stands c.args.w.0 _ _ given.0)
