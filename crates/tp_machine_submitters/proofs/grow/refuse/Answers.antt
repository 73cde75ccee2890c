use Rattle.std.proofs.Common.{◌≡◌, ◌-◌, suc, arith, refl, ap, ◌∙◌}
use Rattle.tp_record.specs.declared.entries.Ask.TheVariants as ask
use Rattle.tp_record.specs.declared.entries.Did.TheVariants as did
use Rattle.tp_record.specs.declared.entries.Grown.TheVariants as grown
use Rattle.tp_laws.proofs.Effects.Submitters.Grow.{grow_refuse}
use Rattle.tp_machine_state.proofs.Ties.{tied_more}
use Rattle.tp_machine_state.proofs.Standing.{entry_here, given_here, known_here, fall_here}
use Rattle.tp_machine_state.proofs.Leading.{leads_by}
use Rattle.tp_types.specs.declared.tasks.Place.TheVariants as at
use Rattle.tp_machine_state.specs.Terms.{terms}
use Rattle.tp_machine_submitters.proofs.grow.refuse.Goals as goal

pub count_entry-requires : goal.count_entry-requires
count_entry-requires g c =
    let old = c.args.parts.now in
    let stands = c.requires.stands in
    let here = entry_here old stands (ask.Grow c.args.t) (did.Grow c.args.t grown.Refuse) _ 7 0 7 c.requires.fits (grow_refuse (terms old) stands.history c.args.t stands.legal) (omega arith) (omega arith) in
    record { few = here.0; fall = here.1 }

pub returns-clause-leads : goal.returns-clause-leads
returns-clause-leads g c =
    let old = c.args.parts.now in
    let stands = c.requires.stands in
    let k = c.count_entry.ensures.rest in
    let m = c.place_task.ensures.rest in
    let here = fall_here old stands (ask.Grow c.args.t) (did.Grow c.args.t grown.Refuse) _ 7 0 7 c.requires.fits (grow_refuse (terms old) stands.history c.args.t stands.legal) (omega arith) in
    let due : c.place_task.new.self.due ≡ old.due - 7 = cc in
    leads_by old c.place_task.new.self (ask.Grow c.args.t) (did.Grow c.args.t grown.Refuse) 7 0 c.requires.fits
    (λ h rs legal given sh. (_, grow_refuse (terms old) h c.args.t legal given, c.place_task.ensures.views _ (c.count_entry.ensures.views _ sh.seen)))
    (ap terms m ∙ ap terms k) (cc) (omega (arith, due, here))
    (c.place_task.ensures.tied (terms old) (suc old.steps) (c.count_entry.ensures.tied (terms old) (suc old.steps) (tied_more (terms old) old.steps old stands.tied)))

pub place_task-requires : goal.place_task-requires
place_task-requires g c =
    let old = c.args.parts.now in
    let stands = c.requires.stands in
    let given = given_here old stands (ask.Grow c.args.t) (did.Grow c.args.t grown.Refuse) c.requires.fits in
    record { known = known_here old stands c.count_entry.new.self.tasks c.args.t.0 at.ToGrow at.Refused (ap (λ p. p.tasks) c.count_entry.ensures.rest) given refl refl }
