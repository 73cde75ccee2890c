use Rattle.std.proofs.Common.{suc, arith, ap, ◌∙◌}
use Rattle.tp_record.specs.declared.entries.Ask.TheVariants as ask
use Rattle.tp_record.specs.declared.entries.Did.TheVariants as did
use Rattle.tp_laws.proofs.Effects.Controllers.TakeDone.{take_done}
use Rattle.tp_machine_state.proofs.Ties.{tied_more}
use Rattle.tp_machine_state.proofs.Standing.{few_steps, fits_accepted}
use Rattle.tp_machine_state.proofs.Leading.{leads_by}
use Rattle.tp_machine_state.specs.Terms.{terms}
use Rattle.tp_machine_controllers.proofs.take_done.TakeDoneStep.apply.Goals as goal

pub count_entry-requires-clause-few : goal.count_entry-requires-clause-few
count_entry-requires-clause-few g c = few_steps c.args.parts.now c.requires.stands (ask.TakeDone c.args.self.0) (did.TakeDone c.args.self.0 c.args._task) c.requires.fits

pub returns-clause-leads : goal.returns-clause-leads
returns-clause-leads g c =
    let fits = fits_accepted c.args.parts.now (ask.TakeDone c.args.self.0) (did.TakeDone c.args.self.0 c.args._task) c.requires.fits in
    let old = c.args.parts.now in
    let k = c.count_entry.ensures in
    let m = c.take_done.ensures in
    let due = ap (λ p. p.due) m.rest ∙ ap (λ p. p.due) k.rest in
    leads_by old c.take_done.new.self (ask.TakeDone c.args.self.0) (did.TakeDone c.args.self.0 c.args._task) 0 0 fits
    (λ h rs legal given sh. (_, take_done (terms old) h c.args.self.0 c.args._task legal given, m.views _ (k.views _ sh.seen)))
    (ap terms m.rest ∙ ap terms k.rest) (ap (λ p. p.steps) m.rest ∙ ap (λ p. p.steps) k.rest) (omega (arith, due))
    (m.tied (terms old) (suc old.steps) (k.tied (terms old) (suc old.steps) (tied_more (terms old) old.steps old c.requires.stands.tied)))
