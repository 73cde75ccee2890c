use Rattle.std.proofs.Common.{◌*◌, suc, arith, ap, ◌∙◌}
use Rattle.tp_record.specs.declared.entries.Ask.TheVariants as ask
use Rattle.tp_record.specs.declared.entries.Did.TheVariants as did
use Rattle.tp_laws.proofs.Effects.Controllers.Purge.{purge}
use Rattle.tp_machine_state.proofs.Ties.{tied_more}
use Rattle.tp_machine_state.proofs.Standing.{fits_accepted, fall_here, falling_here}
use Rattle.tp_machine_state.proofs.Leading.{leads_where}
use Rattle.tp_machine_controllers.proofs.Purges.{holds_queued}
use Rattle.tp_machine_state.specs.Terms.{terms}
use Rattle.tp_machine_controllers.proofs.purge.PurgeStep.apply.Goals as goal

pub purge-requires-clause-known : goal.purge-requires-clause-known
purge-requires-clause-known g c =
    let stands = c.requires.stands in
    (_, stands.shows.seen, holds_queued (terms c.args.parts.now) stands.history stands.released stands.legal stands.may)

pub purge-requires-clause-tied : goal.purge-requires-clause-tied
purge-requires-clause-tied g c = (_, _, c.requires.stands.tied)

pub count_entry-requires : goal.count_entry-requires
count_entry-requires g c =
    let old = c.args.parts.now in
    let stands = c.requires.stands in
    let e = falling_here old stands ask.Purge (did.Purge c.args.cancelled) _ (6 * c.args.cancelled) 0 (6 * c.args.cancelled) c.requires.fits (purge (terms old) stands.history c.args.cancelled stands.legal) (omega arith) in
    let few = e.0 in
    let fall = e.1 in
    let same = c.from.ensures in
    let steps = ap (λ p. p.steps) c.purge.ensures.rest in
    let due = ap (λ p. p.due) c.purge.ensures.rest in
    record { few = omega (arith, few, steps); fall = omega (arith, fall, due, same) }

pub returns-clause-leads : goal.returns-clause-leads
returns-clause-leads g c =
    let fits = fits_accepted c.args.parts.now ask.Purge (did.Purge c.args.cancelled) c.requires.fits in
    let old = c.args.parts.now in
    let stands = c.requires.stands in
    let q = c.purge.ensures in
    let k = c.count_entry.ensures in
    let fall = fall_here old stands ask.Purge (did.Purge c.args.cancelled) _ (6 * c.args.cancelled) 0 (6 * c.args.cancelled) fits (purge (terms old) stands.history c.args.cancelled stands.legal) (omega arith) in
    let same = c.from.ensures in
    let before = ap (λ p. p.due) q.rest in
    let due = ap (λ p. p.due) k.rest in
    leads_where old c.count_entry.new.self ask.Purge (did.Purge c.args.cancelled) (6 * c.args.cancelled) 0 fits
    (λ h rs legal may given sh. (_, purge (terms old) h c.args.cancelled legal given, k.views _ (q.views _ sh.seen (holds_queued (terms old) h rs legal may))))
    (ap terms k.rest ∙ ap terms q.rest) (ap (λ p. p.steps) k.rest ∙ ap (λ p. suc p.steps) q.rest) (omega (arith, due, before, fall, same))
    (k.tied (terms old) (suc old.steps) (q.tied (terms old) (suc old.steps) (tied_more (terms old) old.steps old stands.tied)))
