use Rattle.std.proofs.Common.{refl, ap, ◌∙◌, arith}
use Rattle.tp_record.specs.declared.entries.Ask.TheVariants as ask
use Rattle.tp_record.specs.declared.entries.Did.TheVariants as did
use Rattle.tp_record.specs.declared.entries.Offered.TheVariants as offered
use Rattle.tp_laws.proofs.Effects.Submitters.Offer.{offer_full}
use Rattle.tp_machine_state.proofs.Standing.{entry_here, given_here, known_here}
use Rattle.tp_machine_state.proofs.Leading.{leads_from}
use Rattle.tp_types.specs.declared.tasks.Place.TheVariants as at
use Rattle.tp_machine_state.specs.Terms.{terms}
use Rattle.tp_machine_submitters.proofs.offer.turn_away.Goals as goal

pub count_entry-requires : goal.count_entry-requires
count_entry-requires g c =
    let old = c.args.parts.now in
    let stands = c.requires.stands in
    let e = entry_here old stands (ask.Offer c.args.t) (did.Offer c.args.t offered.Full) _ 2 0 2 c.requires.fits (λ given. offer_full (terms old) stands.history c.args.t stands.legal given) refl (omega arith) in
    record { few = e.0; fall = e.1 }

pub returns-clause-leads : goal.returns-clause-leads
returns-clause-leads g c =
    let old = c.args.parts.now in
    let k = c.count_entry.ensures in
    let m = c.place_task.ensures in
    leads_from old c.place_task.new.self (ask.Offer c.args.t) (did.Offer c.args.t offered.Full) 2 0 2 c.requires.stands c.requires.fits
    (λ h rs legal given sh. (_, offer_full (terms old) h c.args.t legal given, m.views _ (k.views _ sh.seen)))
    refl (ap terms m.rest ∙ ap terms k.rest) (ap (λ p. p.steps) m.rest ∙ ap (λ p. p.steps) k.rest) (ap (λ p. p.due) m.rest ∙ ap (λ p. p.due) k.rest)
    (λ tied. m.tied _ _ (k.tied _ _ tied))

pub place_task-requires : goal.place_task-requires
place_task-requires g c =
    let old = c.args.parts.now in
    let stands = c.requires.stands in
    let given = given_here old stands (ask.Offer c.args.t) (did.Offer c.args.t offered.Full) c.requires.fits in
    record { known = known_here old stands c.count_entry.new.self.tasks c.args.t.0 at.ToOffer at.ToGrow (ap (λ p. p.tasks) c.count_entry.ensures.rest) given refl refl }
