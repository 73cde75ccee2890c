use Rattle.std.proofs.Common.{suc, arith, ◌∙◌, ap}
use Rattle.tp_record.specs.declared.entries.Ask.TheVariants as ask
use Rattle.tp_record.specs.declared.entries.Did.TheVariants as did
use Rattle.tp_machine_state.proofs.Standing.{fits_accepted, falling_here}
use Rattle.tp_machine_state.proofs.Leading.{leads_from}
use Rattle.tp_machine_state.specs.Terms.{terms}
use Rattle.tp_machine_controllers.proofs.Stopping.{shutdown_moves}
use Rattle.tp_machine_controllers.proofs.shutdown.ShutdownStep.apply.Goals as goal

pub count_entry-requires : goal.count_entry-requires
count_entry-requires g c =
    let old = c.args.parts.now in
    let stands = c.requires.stands in
    let n = c.owed_until.result in
    let moves = shutdown_moves old n c.owed_until.ensures.falls stands.history stands.released stands.legal stands.shows in
    let e = falling_here old stands ask.Shutdown did.Shutdown _ n 0 n c.requires.fits (λ given. (moves given).1) (omega arith) in
    record { few = e.0; fall = e.1 }

pub returns-clause-leads : goal.returns-clause-leads
returns-clause-leads g c =
    let fits = fits_accepted c.args.parts.now ask.Shutdown did.Shutdown c.requires.fits in
    let stands = c.requires.stands in
    let old = c.args.parts.now in
    let n = c.owed_until.result in
    let k = c.count_entry.ensures.rest in
    let m = c.reach.ensures.rest in
    let r = c.wake_all.ensures.rest in
    leads_from old c.wake_all.new.self ask.Shutdown did.Shutdown n 0 n stands fits
    (λ h rs legal given sh. (
      _,
      (shutdown_moves old n c.owed_until.ensures.falls h rs legal sh given).1,
      c.wake_all.ensures.views _ (c.reach.ensures.views _ (c.count_entry.ensures.views _ sh.seen)),
    ))
    (omega arith) (ap terms r ∙ ap terms m ∙ ap terms k) (cc) (cc)
    (λ tied. c.wake_all.ensures.tied (terms old) (suc old.steps) (c.reach.ensures.tied (terms old) (suc old.steps) (c.count_entry.ensures.tied (terms old) (suc old.steps) tied)))
