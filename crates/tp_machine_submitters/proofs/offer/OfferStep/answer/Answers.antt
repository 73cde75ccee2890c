use Rattle.std.proofs.Common.{refl}
use Rattle.tp_record.specs.declared.entries.Ask.TheVariants as ask
use Rattle.tp_record.specs.declared.entries.Did.TheVariants as did
use Rattle.tp_rules.specs.Answers.{no_settings}
use Rattle.tp_machine_state.proofs.Rules.{fits_by, denies_by}
use Rattle.tp_machine_submitters.proofs.offer.OfferStep.answer.Goals as goal

pub returns-clause-fits : goal.returns-clause-fits
returns-clause-fits g c =
    let p = c.args.parts.now in
    fits_by p (ask.Offer c.args.self.0) (did.Offer c.args.self.0) (record no_settings { queue = p.config.queue }) (λ w s. refl) (λ x. refl) c.offer.result c.offer.ensures

pub returns-clause-denies : goal.returns-clause-denies
returns-clause-denies g c =
    let p = c.args.parts.now in
    denies_by p (ask.Offer c.args.self.0) (did.Offer c.args.self.0) (record no_settings { queue = p.config.queue }) (λ w s. refl) tt c.offer.result c.offer.ensures
