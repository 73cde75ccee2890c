use Rattle.std.proofs.Common.{refl}
use Rattle.tp_record.specs.declared.entries.Ask.TheVariants as ask
use Rattle.tp_record.specs.declared.entries.Did.TheVariants as did
use Rattle.tp_machine_state.proofs.Rules.{fits_next, denies_at}
use Rattle.tp_machine_submitters.proofs.second.SecondStep.answer.Goals as goal

pub returns-clause-fits : goal.returns-clause-fits
returns-clause-fits g c =
    fits_next c.args.parts.now (ask.Second c.args.self.0) (did.Second c.args.self.0) c.next_number.result.0 (λ w s. refl) c.next_number.ensures.next c.next_number.ensures.free c.second.result c.second.ensures.answers

pub returns-clause-denies : goal.returns-clause-denies
returns-clause-denies g c = denies_at c.args.parts.now (ask.Second c.args.self.0) (did.Second c.args.self.0) c.next_number.result.0 (λ w s. refl) tt c.second.result c.second.ensures.answers
