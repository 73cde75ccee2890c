use Rattle.std.proofs.Common.{suc, ap, ◌∙◌}
use Rattle.tp_record.specs.declared.entries.Ask.TheVariants as ask
use Rattle.tp_record.specs.declared.entries.Did.TheVariants as did
use Rattle.tp_laws.proofs.Effects.Controllers.Settings.{tick as tick_effect}
use Rattle.tp_machine_state.proofs.Standing.{few_steps}
use Rattle.tp_machine_controllers.proofs.Settings.{setting_leads}
use Rattle.tp_machine_state.specs.Terms.{terms}
use Rattle.tp_machine_controllers.proofs.tick.TickStep.apply.Goals as goal

pub count_entry-requires-clause-few : goal.count_entry-requires-clause-few
count_entry-requires-clause-few g c = few_steps c.args.parts.now c.requires.stands (ask.Tick c.args.self.0) (did.Tick c.args.self.0) c.requires.fits

pub returns-clause-leads : goal.returns-clause-leads
returns-clause-leads g c =
    let old = c.args.parts.now in
    let n = c.args.self.0 in
    let k = c.count_entry.ensures.rest in
    let r = c.set_moment.ensures.rest in
    setting_leads old c.requires.stands c.set_moment.new.self (ask.Tick n) (did.Tick n) c.requires.fits
    (λ h rs legal given sh. (_, tick_effect (terms old) h n legal given, c.set_moment.ensures.views _ (c.count_entry.ensures.views _ sh.seen)))
    (ap terms r ∙ ap terms k) (cc) (cc)
    (λ tied. c.set_moment.ensures.tied (terms old) (suc old.steps) (c.count_entry.ensures.tied (terms old) (suc old.steps) tied))
