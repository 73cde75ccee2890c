use Rattle.std.proofs.Common.{suc, refl, ap, ◌∙◌, arith}
use Rattle.tp_machine_state.proofs.Standing.{entry_here, given_here, seat_here}
use Rattle.tp_machine_state.proofs.Leading.{leads_from}
use Rattle.tp_machine_workers.proofs.GivenBack.{given_back, back_here}
use Rattle.tp_record.specs.State.{slot_at}
use Rattle.tp_slots.specs.Table.{is_reserved_row}
use Rattle.tp_machine_state.specs.Terms.{terms}
use Rattle.tp_machine_workers.proofs.freed.give_back.Goals as goal

pub count_entry-requires : goal.count_entry-requires
count_entry-requires g c =
    let old = c.args.parts.now in
    let stands = c.requires.stands in
    let f = c.requires.fits in
    let e = entry_here old stands f.0 f.1 _ 3 0 3 f.3 (λ given. given_back (terms old) stands.history c.args.w f.0 f.1 f.2 stands.legal given) refl (omega arith) in
    record { few = e.0; fall = e.1 }

pub returns-clause-leads : goal.returns-clause-leads
returns-clause-leads g c =
    let old = c.args.parts.now in
    let k = c.count_entry.ensures.rest in
    let r = c.give_up.ensures.rest in
    λ a d is fits.
    leads_from old c.give_up.new.self a d 3 0 3 c.requires.stands fits
    (λ h rs legal given sh. (_, given_back (terms old) h c.args.w a d is legal given, c.give_up.ensures.views _ (c.count_entry.ensures.views _ sh.seen)))
    refl (ap terms r ∙ ap terms k) (ap (λ p. p.steps) r ∙ ap (λ p. p.steps) k) (ap (λ p. p.due) r ∙ ap (λ p. p.due) k)
    (λ tied. c.give_up.ensures.tied (terms old) (suc old.steps) (c.count_entry.ensures.tied (terms old) (suc old.steps) tied))

pub give_up-requires : goal.give_up-requires
give_up-requires g c =
    let old = c.args.parts.now in
    let stands = c.requires.stands in
    let f = c.requires.fits in
    let bare = back_here (terms old) stands.history c.args.w f.0 f.1 f.2 (given_here old stands f.0 f.1 f.3) in
    ap (λ p. is_reserved_row (slot_at p.slots.slots c.args.w.0)) c.count_entry.ensures.rest ∙ ap is_reserved_row (seat_here old stands c.args.w.0 _ _ bare)
