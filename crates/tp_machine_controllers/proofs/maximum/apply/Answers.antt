use Rattle.std.proofs.Common.{suc, arith, ap, ◌∙◌}
use Rattle.tp_record.specs.declared.entries.Ask.TheVariants as ask
use Rattle.tp_record.specs.declared.entries.Did.TheVariants as did
use Rattle.tp_laws.proofs.Effects.Controllers.Settings.{maximum as maximum_effect}
use Rattle.tp_machine_controllers.proofs.Settings.{setting_leads}
use Rattle.tp_machine_state.proofs.Standing.{given_here, fits_accepted, few_steps}
use Rattle.tp_machine_state.specs.Terms.{terms}
use Rattle.tp_machine_controllers.proofs.maximum.apply.Goals as goal

pub count_entry-requires-clause-few : goal.count_entry-requires-clause-few
count_entry-requires-clause-few g c = few_steps c.args.parts.now c.requires.stands (ask.Maximum c.args.maximum) (did.Maximum c.args.maximum) c.requires.accepts

pub returns-clause-leads : goal.returns-clause-leads
returns-clause-leads g c =
    let old = c.args.parts.now in
    let n = c.args.maximum in
    let k = c.count_entry.ensures.rest in
    let r = c.set_maximum.ensures.rest in
    setting_leads old c.requires.stands c.set_maximum.new.self (ask.Maximum n) (did.Maximum n) c.requires.accepts
    (λ h rs legal given sh. (_, maximum_effect (terms old) h n legal given, c.set_maximum.ensures.views _ (c.count_entry.ensures.views _ sh.seen)))
    (ap terms r ∙ ap terms k) (cc) (cc)
    (λ tied. c.set_maximum.ensures.tied (terms old) (suc old.steps) (c.count_entry.ensures.tied (terms old) (suc old.steps) tied))

pub set_maximum-requires-clause-least : goal.set_maximum-requires-clause-least
set_maximum-requires-clause-least g c =
    let fits = fits_accepted c.args.parts.now (ask.Maximum c.args.maximum) (did.Maximum c.args.maximum) c.requires.accepts in
    (given_here c.args.parts.now c.requires.stands (ask.Maximum c.args.maximum) (did.Maximum c.args.maximum) fits).0

pub set_maximum-requires-clause-within : goal.set_maximum-requires-clause-within
set_maximum-requires-clause-within g c =
    let fits = fits_accepted c.args.parts.now (ask.Maximum c.args.maximum) (did.Maximum c.args.maximum) c.requires.accepts in
    let old = c.args.parts.now in
    let stands = c.requires.stands in
    let given = given_here old stands (ask.Maximum c.args.maximum) (did.Maximum c.args.maximum) fits in
    let within = given.2 in
    let core = stands.shows.seen.core_size in
    let same = ap (λ p. p.core) c.count_entry.ensures.rest in
    omega (arith, within, core, same)
