use Rattle.std.proofs.Common.{◌≡◌, ℕ, suc, Bool, true, Some, refl, arith, sym, ap, subst, ◌∙◌}
use Rattle.std.specs.List.{Contains}
use Rattle.tp_record.specs.declared.entries.Ask.TheVariants as ask
use Rattle.tp_record.specs.declared.entries.Did.TheVariants as did
use Rattle.tp_types.specs.declared.ids.TaskId.{TaskId}
use Rattle.tp_record.specs.declared.entries.Offered.{Offered}
use Rattle.tp_record.specs.declared.entries.Offered.TheVariants as offered
use Rattle.tp_types.specs.declared.tasks.Place.TheVariants as at
use Rattle.tp_types.specs.Queues.{is_ranked}
use Rattle.tp_record.specs.Lists.{join_line}
use Rattle.tp_record.specs.Left.{mark}
use Rattle.tp_record.specs.State.{State, state, task_at}
use Rattle.tp_queue.specs.Queues.{waiting_of}
use Rattle.tp_laws.specs.View.{View, view, put}
use Rattle.tp_laws.proofs.Effects.Submitters.Offer.{offer_queued}
use Rattle.tp_machine_state.specs.Offers.{HasRoom}
use Rattle.tp_machine_state.specs.declared.parts.Parts.{Parts}
use Rattle.tp_machine_state.specs.Shows.{Views, numbers}
use Rattle.tp_machine_state.specs.Steps.{Fits, Leads}
use Rattle.tp_machine_state.proofs.Ties.{tied_more}
use Rattle.tp_machine_state.proofs.Standing.{entry_here, given_here, task_here}
use Rattle.tp_machine_state.proofs.Leading.{leads_from}
use Rattle.tp_machine_submitters.proofs.Offering.{absent_here, room_here}
use Rattle.tp_tasks.specs.Tasks.{row_of}
use Rattle.tp_machine_state.specs.Tied.{is_before}
use Rattle.tp_machine_state.specs.Terms.{terms}
use Rattle.tp_machine_submitters.proofs.offer.OfferStep.apply.Goals as goal

-- what the offer was answered with is that the queue takes it
fits_queued : {P : Type 0} (p : Parts P) (t : TaskId) (o : Offered) → o ≡ offered.Queued → Fits p (ask.Offer t) (did.Offer t o) → Fits p (ask.Offer t) (did.Offer t offered.Queued)
fits_queued p t o is fits = subst (λ x. Fits p (ask.Offer t) (did.Offer t x)) is fits

-- what is seen with the task in the queue
abbrev joined : Bool → State → ℕ → View
joined b s t = record (view s) { tasks = put t (record (task_at s t) { place = at.Queued; second = true }) (task_at s); queue = join_line b (λ u. (task_at s u).priority) (Some t) s.queue }

pub count_entry-requires : goal.count_entry-requires
count_entry-requires g c =
    let old = c.args.parts.now in
    let fits = fits_queued old c.args.self.0 c.args.offered c.in-Queued.is c.requires.fits in
    let stands = c.requires.stands in
    let e = entry_here old stands (ask.Offer c.args.self.0) (did.Offer c.args.self.0 offered.Queued) _ 1 0 1 fits (λ given. offer_queued (terms old) stands.history c.args.self.0 stands.legal given) refl (omega arith) in
    record { few = e.0; fall = e.1 }

pub enqueue-requires-clause-absent : goal.enqueue-requires-clause-absent
enqueue-requires-clause-absent g c =
    let old = c.args.parts.now in
    let fits = fits_queued old c.args.self.0 c.args.offered c.in-Queued.is c.requires.fits in
    let stands = c.requires.stands in
    let given = given_here old stands (ask.Offer c.args.self.0) (did.Offer c.args.self.0 offered.Queued) fits in
    λ has. absent_here old stands c.args.self.0 given.0 (subst (λ q. Contains (numbers (waiting_of q).items) c.args.self.0.0) (ap (λ p. p.queue) c.count_entry.ensures.rest) has)

pub enqueue-requires-clause-keyed : goal.enqueue-requires-clause-keyed
enqueue-requires-clause-keyed g c =
    let old = c.args.parts.now in
    (c.count_entry.ensures.tied (terms old) (suc old.steps) (tied_more (terms old) old.steps old c.requires.stands.tied)).keyed

pub enqueue-requires-clause-room : goal.enqueue-requires-clause-room
enqueue-requires-clause-room g c =
    let old = c.args.parts.now in
    let fits = fits_queued old c.args.self.0 c.args.offered c.in-Queued.is c.requires.fits in
    let stands = c.requires.stands in
    let given = given_here old stands (ask.Offer c.args.self.0) (did.Offer c.args.self.0 offered.Queued) fits in
    subst (λ q. HasRoom (waiting_of q)) (sym (ap (λ p. p.queue) c.count_entry.ensures.rest)) (room_here old stands c.args.self.0 given.0 given.1)

pub enqueue-requires-clause-few : goal.enqueue-requires-clause-few
enqueue-requires-clause-few g c =
    let old = c.args.parts.now in
    let stands = c.requires.stands in
    let fits = fits_queued old c.args.self.0 c.args.offered c.in-Queued.is c.requires.fits in
    let e = entry_here old stands (ask.Offer c.args.self.0) (did.Offer c.args.self.0 offered.Queued) _ 1 0 1 fits (λ given. offer_queued (terms old) stands.history c.args.self.0 stands.legal given) refl (omega arith) in
    let few = e.0 in
    let offers = stands.tied.offers in
    let same = ap (λ p. (waiting_of p.queue).offers) c.count_entry.ensures.rest in
    omega (arith, few, offers, same)

pub returns-in-Queued-clause-leads : goal.returns-in-Queued-clause-leads
returns-in-Queued-clause-leads g c =
    let old = c.args.parts.now in
    let fits = fits_queued old c.args.self.0 c.args.offered c.in-Queued.is c.requires.fits in
    let k = c.count_entry.ensures in
    let m = c.enqueue.ensures in
    let offers = c.requires.stands.tied.offers in
    let same = ap (λ p. (waiting_of p.queue).offers) k.rest in
    let ranked = ap (λ p. is_ranked (waiting_of p.queue).kind) k.rest ∙ ap is_ranked c.requires.stands.tied.kind in
    subst (λ o. Leads old (did.Offer c.args.self.0 o) c.enqueue.new.self) (sym c.in-Queued.is) (leads_from old c.enqueue.new.self (ask.Offer c.args.self.0) (did.Offer c.args.self.0 offered.Queued) 1 0 1 c.requires.stands fits
    (λ h rs legal given sh. (_, offer_queued (terms old) h c.args.self.0 legal given, subst (λ b. Views c.enqueue.new.self (joined b (mark rs (state (terms old) h)) c.args.self.0.0)) ranked (m.views _ (k.views _ sh.seen))))
    refl (ap terms m.rest ∙ ap terms k.rest) (ap (λ p. p.steps) m.rest ∙ ap (λ p. p.steps) k.rest) (ap (λ p. p.due) m.rest ∙ ap (λ p. p.due) k.rest)
    (λ tied. m.tied (terms old) (suc old.steps) (k.tied _ _ tied) (omega (arith, offers, same))))

pub enqueue-requires-clause-known : goal.enqueue-requires-clause-known
enqueue-requires-clause-known g c =
    let old = c.args.parts.now in
    let fits = fits_queued old c.args.self.0 c.args.offered c.in-Queued.is c.requires.fits in
    let stands = c.requires.stands in
    let given = given_here old stands (ask.Offer c.args.self.0) (did.Offer c.args.self.0 offered.Queued) fits in
    let there = task_here old stands c.args.self.0.0 at.ToOffer given.0 refl in
    (task_at (state (terms old) stands.history) c.args.self.0.0, ap (λ p. row_of p.tasks c.args.self.0.0) c.count_entry.ensures.rest ∙ there.0, ap is_before there.1)
