use Rattle.std.proofs.Common.{false, refl}
use Rattle.tp_record.specs.declared.entries.Ask.TheVariants as ask
use Rattle.tp_record.specs.declared.entries.Did.TheVariants as did
use Rattle.tp_machine_state.proofs.Answering.{refuses_fitting}
use Rattle.tp_machine_state.proofs.Rules.{accepts_given, denies_given}
use Rattle.tp_machine_controllers.proofs.Stopping.{shutdown_moves}
use Rattle.tp_machine_controllers.proofs.shutdown.ShutdownStep.answer.Goals as goal

pub returns-clause-fits : goal.returns-clause-fits
returns-clause-fits g c =
    let p = c.args.parts.now in
    let n = c.owed_until.result in
    accepts_given p ask.Shutdown (λ x. did.Shutdown) n 0 tt (λ h rs legal may sh. (refl, tt)) (shutdown_moves p n c.owed_until.ensures.falls) c.in_room.result c.in_room.ensures

pub returns-clause-denies : goal.returns-clause-denies
returns-clause-denies g c =
    let p = c.args.parts.now in
    let n = c.owed_until.result in
    denies_given p ask.Shutdown (λ x. did.Shutdown) n 0 tt tt
    (λ full. refuses_fitting p ask.Shutdown did.Shutdown n 0 false full refl (λ h rs legal may sh. (refl, tt)) (λ s w. refl) (shutdown_moves p n c.owed_until.ensures.falls)) c.in_room.result c.in_room.ensures
