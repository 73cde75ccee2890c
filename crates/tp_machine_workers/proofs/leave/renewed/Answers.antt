use Rattle.std.proofs.Common.{suc, Some, None, arith, refl, sym, ap, ◌∙◌}
use Rattle.std.specs.Prelude.{count_by, is_some}
use Rattle.tp_record.specs.declared.entries.Ask.TheVariants as ask
use Rattle.tp_record.specs.declared.entries.Did.TheVariants as did
use Rattle.tp_record.specs.Fields.{is_idle_row, is_live}
use Rattle.tp_record.specs.State.{state, slot_at}
use Rattle.tp_laws.specs.View.{put}
use Rattle.tp_laws.proofs.Effects.Rows.{bare}
use Rattle.tp_laws.proofs.Effects.Workers.Leave.{leave_renewed}
use Rattle.tp_machine_state.proofs.Standing.{entry_here, given_here, seat_here}
use Rattle.tp_machine_state.proofs.Leading.{leads_from}
use Rattle.tp_machine_state.proofs.Slots.{views_slots, put_again, busy_order}
use Rattle.tp_machine_state.specs.Terms.{terms}
use Rattle.tp_machine_workers.proofs.leave.renewed.Goals as goal

pub count_entry-requires : goal.count_entry-requires
count_entry-requires g c =
    let old = c.args.parts.now in
    let stands = c.requires.stands in
    let e = entry_here old stands (ask.Leave c.args.w) (did.Leave c.args.w (Some c.args.w)) _ 1 0 1 c.requires.fits (leave_renewed (terms old) stands.history c.args.w stands.legal) refl (omega arith) in
    record { few = e.0; fall = e.1 }

pub reserve-requires-clause-room : goal.reserve-requires-clause-room
reserve-requires-clause-room g c =
    let old = c.args.parts.now in
    let stands = c.requires.stands in
    let given = given_here old stands (ask.Leave c.args.w) (did.Leave c.args.w (Some c.args.w)) c.requires.fits in
    let below = given.2 in
    let before = stands.shows.taken ∙ sym (ap (λ p. count_by is_some p.slots.slots) c.count_entry.ensures.rest) in
    let after = c.free.ensures.taken in
    let room = stands.tied.places in
    let most = stands.shows.seen.maximum_size in
    let places = ap (λ t. t.places) c.free.ensures.table ∙ ap (λ p. p.slots.places) c.count_entry.ensures.rest in
    omega (arith, below, before, after, room, most, places)

pub returns-clause-leads : goal.returns-clause-leads
returns-clause-leads g c =
    let old = c.args.parts.now in
    let k = c.count_entry.ensures.rest in
    let m = c.free.ensures.rest in
    let r = c.reserve.ensures.rest in
    let number = c.reserve.ensures.number ∙ ap (λ t. t.next) c.free.ensures.table in
    leads_from old c.reserve.new.self (ask.Leave c.args.w) (did.Leave c.args.w (Some c.args.w)) 1 0 1 c.requires.stands c.requires.fits
    (λ h rs legal given sh. (
      _,
      leave_renewed (terms old) h c.args.w legal given,
      views_slots _ _ _ _ _ _
          (λ x. put_again c.args.w.0 (Some bare) None (slot_at (state (terms old) h).slots) x ∙ ap (λ w. put w (Some bare) (put c.args.w.0 None (slot_at (state (terms old) h).slots)) x) (sym number))
          (sym (busy_order h c.args.w.0 (ap is_idle_row given.0))) (c.reserve.ensures.views _ (c.free.ensures.views _ (c.count_entry.ensures.views _ sh.seen))),
    ))
    refl (ap terms r ∙ ap terms m ∙ ap terms k) (ap (λ p. p.steps) r ∙ ap (λ p. p.steps) m ∙ ap (λ p. p.steps) k) (ap (λ p. p.due) r ∙ ap (λ p. p.due) m ∙ ap (λ p. p.due) k)
    (λ tied. c.reserve.ensures.tied (terms old) (suc old.steps) (c.free.ensures.tied (terms old) (suc old.steps) (c.count_entry.ensures.tied (terms old) (suc old.steps) tied)))

pub free-requires : goal.free-requires
free-requires g c =
    let old = c.args.parts.now in
    let stands = c.requires.stands in
    let given = given_here old stands (ask.Leave c.args.w) (did.Leave c.args.w (Some c.args.w)) c.requires.fits in
    ap (λ p. is_live (slot_at p.slots.slots c.args.w.0)) c.count_entry.ensures.rest
    ∙ ap is_live (seat_here old stands c.args.w.0 _ _ given.0)
