use Rattle.std.proofs.Common.{refl}
use Rattle.tp_record.specs.declared.entries.Ask.TheVariants as ask
use Rattle.tp_record.specs.declared.entries.Did.TheVariants as did
use Rattle.tp_laws.proofs.Effects.Controllers.Settings.{maximum as maximum_effect}
use Rattle.tp_machine_state.specs.Terms.{terms}
use Rattle.tp_machine_state.proofs.Rules.{accepts_in, refuses_in}
use Rattle.tp_machine_controllers.proofs.maximum.answer.Goals as goal

pub returns-clause-accepts : goal.returns-clause-accepts
returns-clause-accepts g c =
    let p = c.args.parts.now in
    let n = c.args.maximum in
    accepts_in p (ask.Maximum n) (λ x. did.Maximum n) (λ w s. refl) 0 0 (λ x. refl) c.maximum.result (λ x is h rs legal sh given. (_, maximum_effect (terms p) h n legal given)) c.in_room.result c.in_room.ensures c.maximum.ensures

pub returns-clause-refuses : goal.returns-clause-refuses
returns-clause-refuses g c =
    let p = c.args.parts.now in
    let n = c.args.maximum in
    refuses_in p (ask.Maximum n) (λ x. did.Maximum n) (λ w s. refl) 0 0 (λ x. refl) c.maximum.result (λ x is h rs legal sh given. (_, maximum_effect (terms p) h n legal given)) c.in_room.result c.in_room.ensures c.maximum.ensures
