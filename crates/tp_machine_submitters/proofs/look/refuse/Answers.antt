use Rattle.std.proofs.Common.{refl, ap, ◌∙◌, arith}
use Rattle.tp_record.specs.declared.entries.Ask.TheVariants as ask
use Rattle.tp_record.specs.declared.entries.Did.TheVariants as did
use Rattle.tp_record.specs.declared.entries.Looked.TheVariants as looked
use Rattle.tp_laws.proofs.Effects.Submitters.Look.{look_refuse}
use Rattle.tp_machine_state.proofs.Standing.{entry_here, given_here, known_here}
use Rattle.tp_machine_state.proofs.Leading.{leads_from}
use Rattle.tp_types.specs.declared.tasks.Place.TheVariants as at
use Rattle.tp_machine_state.specs.Terms.{terms}
use Rattle.tp_machine_submitters.proofs.look.refuse.Goals as goal

pub count_entry-requires : goal.count_entry-requires
count_entry-requires g c =
    let old = c.args.parts.now in
    let stands = c.requires.stands in
    let e = entry_here old stands (ask.Look c.args.t) (did.Look c.args.t looked.Refuse) _ 11 0 11 c.requires.fits (λ given. look_refuse (terms old) stands.history c.args.t stands.legal given) refl (omega arith) in
    record { few = e.0; fall = e.1 }

pub returns-clause-leads : goal.returns-clause-leads
returns-clause-leads g c =
    let old = c.args.parts.now in
    let k = c.count_entry.ensures in
    let m = c.place_task.ensures in
    leads_from old c.place_task.new.self (ask.Look c.args.t) (did.Look c.args.t looked.Refuse) 11 0 11 c.requires.stands c.requires.fits
    (λ h rs legal given sh. (_, look_refuse (terms old) h c.args.t legal given, m.views _ (k.views _ sh.seen)))
    refl (ap terms m.rest ∙ ap terms k.rest) (ap (λ p. p.steps) m.rest ∙ ap (λ p. p.steps) k.rest) (ap (λ p. p.due) m.rest ∙ ap (λ p. p.due) k.rest)
    (λ tied. m.tied _ _ (k.tied _ _ tied))

pub place_task-requires : goal.place_task-requires
place_task-requires g c =
    let old = c.args.parts.now in
    let stands = c.requires.stands in
    let given = given_here old stands (ask.Look c.args.t) (did.Look c.args.t looked.Refuse) c.requires.fits in
    record { known = known_here old stands c.count_entry.new.self.tasks c.args.t.0 at.Looking at.Refused (ap (λ p. p.tasks) c.count_entry.ensures.rest) given.0 refl refl }
