use Rattle.std.proofs.Common.{refl}
use Rattle.tp_record.specs.declared.entries.Ask.TheVariants as ask
use Rattle.tp_record.specs.declared.entries.Did.TheVariants as did
use Rattle.tp_machine_controllers.proofs.Cancels.{cancel_moves}
use Rattle.tp_machine_state.proofs.Rules.{accepts_in, denies_in}
use Rattle.tp_machine_controllers.proofs.cancel.CancelStep.answer.Goals as goal

pub returns-clause-fits : goal.returns-clause-fits
returns-clause-fits g c =
    let p = c.args.parts.now in
    accepts_in p (ask.Cancel c.args.self.0 c.args.self.1) (did.Cancel c.args.self.0 c.args.self.1) (λ w s. refl) 0 0 (λ x. refl) c.cancel.result (λ x is. cancel_moves p c.args.self.0 c.args.self.1 x) c.in_room.result c.in_room.ensures c.cancel.ensures

pub returns-clause-denies : goal.returns-clause-denies
returns-clause-denies g c =
    let p = c.args.parts.now in
    denies_in p (ask.Cancel c.args.self.0 c.args.self.1) (did.Cancel c.args.self.0 c.args.self.1) (λ w s. refl) 0 0 (λ x. refl) tt c.cancel.result (λ x is. cancel_moves p c.args.self.0 c.args.self.1 x) c.in_room.result c.in_room.ensures c.cancel.ensures
