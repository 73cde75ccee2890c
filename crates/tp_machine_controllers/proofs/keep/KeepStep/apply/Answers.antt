use Rattle.std.proofs.Common.{suc, ap, ◌∙◌}
use Rattle.tp_record.specs.declared.entries.Ask.TheVariants as ask
use Rattle.tp_record.specs.declared.entries.Did.TheVariants as did
use Rattle.tp_laws.proofs.Effects.Controllers.Settings.{keep as keep_effect}
use Rattle.tp_machine_state.proofs.Standing.{few_steps}
use Rattle.tp_machine_controllers.proofs.Settings.{setting_leads}
use Rattle.tp_machine_state.specs.Terms.{terms}
use Rattle.tp_machine_controllers.proofs.keep.KeepStep.apply.Goals as goal

pub count_entry-requires-clause-few : goal.count_entry-requires-clause-few
count_entry-requires-clause-few g c = few_steps c.args.parts.now c.requires.stands (ask.Keep c.args.self.0) (did.Keep c.args.self.0) c.requires.fits

pub returns-clause-leads : goal.returns-clause-leads
returns-clause-leads g c =
    let old = c.args.parts.now in
    let n = c.args.self.0 in
    let k = c.count_entry.ensures.rest in
    let r = c.set_keep.ensures.rest in
    setting_leads old c.requires.stands c.set_keep.new.self (ask.Keep n) (did.Keep n) c.requires.fits
    (λ h rs legal given sh. (_, keep_effect (terms old) h n legal given, c.set_keep.ensures.views _ (c.count_entry.ensures.views _ sh.seen)))
    (ap terms r ∙ ap terms k) (cc) (cc)
    (λ tied. c.set_keep.ensures.tied (terms old) (suc old.steps) (c.count_entry.ensures.tied (terms old) (suc old.steps) tied))
