use Rattle.std.proofs.Common.{inr, refl, sym, subst}
use Rattle.tp_record.specs.declared.entries.Ask.TheVariants as ask
use Rattle.tp_record.specs.declared.entries.Did.TheVariants as did
use Rattle.tp_record.specs.declared.entries.Opened.TheVariants as opened
use Rattle.tp_machine_state.specs.Steps.{Fits, Leads}
use Rattle.tp_machine_workers.proofs.open.OpenStep.apply.Goals as goal

pub give_back-requires-clause-fits : goal.give_back-requires-clause-fits
give_back-requires-clause-fits g c =
    let fits = subst (λ o. Fits c.args.parts.now (ask.Open c.args.self.0) (did.Open c.args.self.0 o)) c.in-GivenUp.is c.requires.fits in
    (ask.Open c.args.self.0, did.Open c.args.self.0 opened.GivenUp, inr (refl, refl), fits)

pub turn_away-requires-clause-fits : goal.turn_away-requires-clause-fits
turn_away-requires-clause-fits g c =
    let fits = subst (λ o. Fits c.args.parts.now (ask.Open c.args.self.0) (did.Open c.args.self.0 o)) c.in-GivenUpRefuse.is c.requires.fits in
    (ask.Open c.args.self.0, did.Open c.args.self.0 (opened.GivenUpRefuse c.in-GivenUpRefuse.t), inr (refl, refl), fits)

pub returns-in-GivenUp-clause-leads : goal.returns-in-GivenUp-clause-leads
returns-in-GivenUp-clause-leads g c =
    let fits = subst (λ o. Fits c.args.parts.now (ask.Open c.args.self.0) (did.Open c.args.self.0 o)) c.in-GivenUp.is c.requires.fits in
    subst (λ o. Leads c.args.parts.now (did.Open c.args.self.0 o) c.give_back.new.parts) (sym c.in-GivenUp.is) (c.give_back.ensures.leads _ _ (inr (refl, refl)) fits)

pub returns-in-GivenUpRefuse-clause-leads : goal.returns-in-GivenUpRefuse-clause-leads
returns-in-GivenUpRefuse-clause-leads g c =
    let fits = subst (λ o. Fits c.args.parts.now (ask.Open c.args.self.0) (did.Open c.args.self.0 o)) c.in-GivenUpRefuse.is c.requires.fits in
    subst (λ o. Leads c.args.parts.now (did.Open c.args.self.0 o) c.turn_away.new.parts) (sym c.in-GivenUpRefuse.is) (c.turn_away.ensures.leads _ _ (inr (refl, refl)) fits)
