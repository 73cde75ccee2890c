use Rattle.std.proofs.Common.{None, drop, refl, sym, ap, ◌∙◌, arith}
use Rattle.tp_record.specs.declared.entries.Ask.TheVariants as ask
use Rattle.tp_record.specs.declared.entries.Did.TheVariants as did
use Rattle.tp_record.specs.declared.entries.Offered.TheVariants as offered
use Rattle.tp_record.specs.declared.rows.Stage.TheVariants as stages
use Rattle.tp_record.specs.Fields.{idling, is_idle_row}
use Rattle.tp_record.specs.State.{slot_at, state, task_at}
use Rattle.tp_laws.proofs.Model.Queues.{once-idling}
use Rattle.tp_laws.proofs.Effects.Lists.{without_head}
use Rattle.tp_laws.proofs.Effects.Submitters.Offer.{offer_hand}
use Rattle.tp_machine_state.proofs.Slots.{views_slots}
use Rattle.tp_machine_state.proofs.Standing.{entry_here, given_here, seat_here, task_here}
use Rattle.tp_machine_state.proofs.Leading.{leads_from}
use Rattle.tp_tasks.specs.Tasks.{row_of}
use Rattle.tp_machine_state.specs.Tied.{is_before}
use Rattle.tp_machine_state.specs.Terms.{terms}
use Rattle.tp_types.specs.declared.tasks.Place.TheVariants as at
use Rattle.tp_machine_submitters.proofs.offer.hand.Goals as goal

pub count_entry-requires : goal.count_entry-requires
count_entry-requires g c =
    let old = c.args.parts.now in
    let stands = c.requires.stands in
    let e = entry_here old stands (ask.Offer c.args.t) (did.Offer c.args.t (offered.Hand c.args.w)) _ 1 0 1 c.requires.fits (λ given. offer_hand (terms old) stands.history c.args.t c.args.w stands.legal given) refl (omega arith) in
    record { few = e.0; fall = e.1 }

pub wake-requires : goal.wake-requires
wake-requires g c =
    let old = c.args.parts.now in
    let stands = c.requires.stands in
    let given = given_here old stands (ask.Offer c.args.t) (did.Offer c.args.t (offered.Hand c.args.w)) c.requires.fits in
    record {
      idle = ap (λ p. is_idle_row (slot_at p.slots.slots c.args.w.0)) c.hand_task.ensures.rest ∙ ap (λ p. is_idle_row (slot_at p.slots.slots c.args.w.0)) c.count_entry.ensures.rest
          ∙ ap is_idle_row (seat_here old stands c.args.w.0 (stages.Idle given.3.0) None given.3.1);
    }

pub returns-clause-leads : goal.returns-clause-leads
returns-clause-leads g c =
    let old = c.args.parts.now in
    let k = c.count_entry.ensures in
    let m = c.hand_task.ensures in
    let r = c.wake.ensures in
    leads_from old c.wake.new.self (ask.Offer c.args.t) (did.Offer c.args.t (offered.Hand c.args.w)) 1 0 1 c.requires.stands c.requires.fits
    (λ h rs legal given sh. (
      _,
      offer_hand (terms old) h c.args.t c.args.w legal given,
      views_slots c.wake.new.self _ _ (drop 1 (idling h)) _ _ (λ x. refl) (sym (without_head c.args.w.0 (idling h) given.2.0 (once-idling h) given.2.1)) (r.views _ (m.views _ (k.views _ sh.seen))),
    ))
    refl
    (ap terms r.rest ∙ ap terms m.rest ∙ ap terms k.rest)
    (ap (λ p. p.steps) r.rest ∙ ap (λ p. p.steps) m.rest ∙ ap (λ p. p.steps) k.rest)
    (ap (λ p. p.due) r.rest ∙ ap (λ p. p.due) m.rest ∙ ap (λ p. p.due) k.rest)
    (λ tied. r.tied _ _ (m.tied _ _ (k.tied _ _ tied)))

pub hand_task-requires : goal.hand_task-requires
hand_task-requires g c =
    let old = c.args.parts.now in
    let stands = c.requires.stands in
    let given = given_here old stands (ask.Offer c.args.t) (did.Offer c.args.t (offered.Hand c.args.w)) c.requires.fits in
    let there = task_here old stands c.args.t.0 at.ToOffer given.0 refl in
    record { known = (task_at (state (terms old) stands.history) c.args.t.0, ap (λ p. row_of p.tasks c.args.t.0) c.count_entry.ensures.rest ∙ there.0, ap is_before there.1) }
