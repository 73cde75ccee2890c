use Rattle.std.proofs.Common.{refl}
use Rattle.tp_record.specs.declared.entries.Ask.TheVariants as ask
use Rattle.tp_record.specs.declared.entries.Did.TheVariants as did
use Rattle.tp_laws.proofs.Effects.Controllers.TakeDone.{take_done as take_done_effect}
use Rattle.tp_machine_state.specs.Terms.{terms}
use Rattle.tp_machine_state.proofs.Rules.{accepts_in, denies_in}
use Rattle.tp_machine_controllers.proofs.take_done.TakeDoneStep.answer.Goals as goal

pub returns-clause-fits : goal.returns-clause-fits
returns-clause-fits g c =
    let p = c.args.parts.now in
    accepts_in p (ask.TakeDone c.args.self.0) (did.TakeDone c.args.self.0) (λ w s. refl) 0 0 (λ x. refl) c.take_done.result (λ t is h rs legal sh given. (_, take_done_effect (terms p) h c.args.self.0 t legal given)) c.in_room.result c.in_room.ensures c.take_done.ensures

pub returns-clause-denies : goal.returns-clause-denies
returns-clause-denies g c =
    let p = c.args.parts.now in
    denies_in p (ask.TakeDone c.args.self.0) (did.TakeDone c.args.self.0) (λ w s. refl) 0 0 (λ x. refl) tt c.take_done.result (λ t is h rs legal sh given. (_, take_done_effect (terms p) h c.args.self.0 t legal given)) c.in_room.result c.in_room.ensures c.take_done.ensures
