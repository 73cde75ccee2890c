use Rattle.std.proofs.Common.{inl, refl, sym, subst}
use Rattle.tp_record.specs.declared.entries.Ask.TheVariants as ask
use Rattle.tp_record.specs.declared.entries.Did.TheVariants as did
use Rattle.tp_record.specs.declared.entries.Failed.TheVariants as failed
use Rattle.tp_machine_state.specs.Steps.{Fits, Leads}
use Rattle.tp_machine_workers.proofs.fail.FailStep.apply.Goals as goal

pub give_back-requires-clause-fits : goal.give_back-requires-clause-fits
give_back-requires-clause-fits g c =
    let fits = subst (λ f. Fits c.args.parts.now (ask.Fail c.args.self.0) (did.Fail c.args.self.0 f)) c.in-Nothing.is c.requires.fits in
    (ask.Fail c.args.self.0, did.Fail c.args.self.0 failed.Nothing, inl (refl, refl), fits)

pub turn_away-requires-clause-fits : goal.turn_away-requires-clause-fits
turn_away-requires-clause-fits g c =
    let fits = subst (λ f. Fits c.args.parts.now (ask.Fail c.args.self.0) (did.Fail c.args.self.0 f)) c.in-Refuse.is c.requires.fits in
    (ask.Fail c.args.self.0, did.Fail c.args.self.0 (failed.Refuse c.in-Refuse.t), inl (refl, refl), fits)

pub returns-in-Nothing-clause-leads : goal.returns-in-Nothing-clause-leads
returns-in-Nothing-clause-leads g c =
    let fits = subst (λ f. Fits c.args.parts.now (ask.Fail c.args.self.0) (did.Fail c.args.self.0 f)) c.in-Nothing.is c.requires.fits in
    subst (λ f. Leads c.args.parts.now (did.Fail c.args.self.0 f) c.give_back.new.parts) (sym c.in-Nothing.is) (c.give_back.ensures.leads _ _ (inl (refl, refl)) fits)

pub returns-in-Refuse-clause-leads : goal.returns-in-Refuse-clause-leads
returns-in-Refuse-clause-leads g c =
    let fits = subst (λ f. Fits c.args.parts.now (ask.Fail c.args.self.0) (did.Fail c.args.self.0 f)) c.in-Refuse.is c.requires.fits in
    subst (λ f. Leads c.args.parts.now (did.Fail c.args.self.0 f) c.turn_away.new.parts) (sym c.in-Refuse.is) (c.turn_away.ensures.leads _ _ (inl (refl, refl)) fits)
