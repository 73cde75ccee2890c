use Rattle.std.proofs.Common.{false, suc, arith, ap}
use Rattle.tp_record.specs.declared.entries.Ask.TheVariants as ask
use Rattle.tp_record.specs.declared.entries.Did.TheVariants as did
use Rattle.tp_laws.proofs.Effects.Controllers.Remove.{remove_absent}
use Rattle.tp_machine_state.proofs.Ties.{tied_more}
use Rattle.tp_machine_state.proofs.Standing.{few_steps, fits_accepted}
use Rattle.tp_machine_state.proofs.Leading.{leads_by}
use Rattle.tp_machine_state.specs.Terms.{terms}
use Rattle.tp_machine_controllers.proofs.remove.absent.Goals as goal

pub count_entry-requires-clause-few : goal.count_entry-requires-clause-few
count_entry-requires-clause-few g c = few_steps c.args.parts.now c.requires.stands (ask.Remove c.args.t) (did.Remove c.args.t false) c.requires.accepts

pub returns-clause-leads : goal.returns-clause-leads
returns-clause-leads g c =
    let fits = fits_accepted c.args.parts.now (ask.Remove c.args.t) (did.Remove c.args.t false) c.requires.accepts in
    let old = c.args.parts.now in
    let k = c.count_entry.ensures in
    let due = ap (λ p. p.due) k.rest in
    leads_by old c.count_entry.new.self (ask.Remove c.args.t) (did.Remove c.args.t false) 0 0 fits
    (λ h rs legal given sh. (_, remove_absent (terms old) h c.args.t legal given, k.views _ sh.seen))
    (ap terms k.rest) (ap (λ p. p.steps) k.rest) (omega (arith, due))
    (k.tied (terms old) (suc old.steps) (tied_more (terms old) old.steps old c.requires.stands.tied))
