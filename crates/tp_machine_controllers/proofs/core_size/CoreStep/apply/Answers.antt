use Rattle.std.proofs.Common.{suc, arith, ap, ◌∙◌}
use Rattle.tp_record.specs.declared.entries.Ask.TheVariants as ask
use Rattle.tp_record.specs.declared.entries.Did.TheVariants as did
use Rattle.tp_laws.proofs.Effects.Controllers.Settings.{core as core_effect}
use Rattle.tp_machine_controllers.proofs.Settings.{setting_leads}
use Rattle.tp_machine_state.proofs.Standing.{given_here, fits_accepted, few_steps}
use Rattle.tp_machine_state.specs.Terms.{terms}
use Rattle.tp_machine_controllers.proofs.core_size.CoreStep.apply.Goals as goal

pub count_entry-requires-clause-few : goal.count_entry-requires-clause-few
count_entry-requires-clause-few g c = few_steps c.args.parts.now c.requires.stands (ask.Core c.args.self.0) (did.Core c.args.self.0 c.args._added) c.requires.fits

pub returns-clause-leads : goal.returns-clause-leads
returns-clause-leads g c =
    let old = c.args.parts.now in
    let n = c.args.self.0 in
    let k = c.count_entry.ensures.rest in
    let r = c.set_core.ensures.rest in
    setting_leads old c.requires.stands c.set_core.new.self (ask.Core n) (did.Core n c.args._added) c.requires.fits
    (λ h rs legal given sh. (_, core_effect (terms old) h n c.args._added legal given, c.set_core.ensures.views _ (c.count_entry.ensures.views _ sh.seen)))
    (ap terms r ∙ ap terms k) (cc) (cc)
    (λ tied. c.set_core.ensures.tied (terms old) (suc old.steps) (c.count_entry.ensures.tied (terms old) (suc old.steps) tied))

pub set_core-requires : goal.set_core-requires
set_core-requires g c =
    let fits = fits_accepted c.args.parts.now (ask.Core c.args.self.0) (did.Core c.args.self.0 c.args._added) c.requires.fits in
    let old = c.args.parts.now in
    let stands = c.requires.stands in
    let given = given_here old stands (ask.Core c.args.self.0) (did.Core c.args.self.0 c.args._added) fits in
    let most = stands.shows.seen.maximum_size in
    let same = ap (λ p. p.maximum) c.count_entry.ensures.rest in
    record { within = omega (arith, given, most, same) }
