use Rattle.std.proofs.Common.{false, refl}
use Rattle.tp_record.specs.declared.entries.Ask.TheVariants as ask
use Rattle.tp_record.specs.declared.entries.Did.TheVariants as did
use Rattle.tp_machine_state.proofs.Answering.{refuses_fitting}
use Rattle.tp_machine_state.proofs.Rules.{accepts_given, denies_given}
use Rattle.tp_machine_controllers.proofs.Purges.{purge_fits, purge_moves}
use Rattle.tp_machine_controllers.proofs.purge.PurgeStep.answer.Goals as goal

pub returns-clause-fits : goal.returns-clause-fits
returns-clause-fits g c =
    let p = c.args.parts.now in
    let n = c.count_cancelled-cancelled.result in
    accepts_given p ask.Purge (λ k. did.Purge k) _ 0 n (purge_fits p n c.count_cancelled-cancelled.ensures) (purge_moves p n c.from.result c.from.ensures) c.in_room.result c.in_room.ensures

pub returns-clause-denies : goal.returns-clause-denies
returns-clause-denies g c =
    let p = c.args.parts.now in
    let n = c.count_cancelled-cancelled.result in
    denies_given p ask.Purge (λ k. did.Purge k) _ 0 n tt
    (λ full. refuses_fitting p ask.Purge (did.Purge n) _ 0 false full refl (purge_fits p n c.count_cancelled-cancelled.ensures) (λ s w. refl) (purge_moves p n c.from.result c.from.ensures)) c.in_room.result c.in_room.ensures
