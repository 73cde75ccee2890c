use Rattle.std.proofs.Common.{refl}
use Rattle.tp_record.specs.declared.entries.Ask.TheVariants as ask
use Rattle.tp_record.specs.declared.entries.Did.TheVariants as did
use Rattle.tp_machine_state.proofs.Rules.{fits, denies}
use Rattle.tp_machine_workers.proofs.fail.FailStep.answer.Goals as goal

pub returns-clause-fits : goal.returns-clause-fits
returns-clause-fits g c = fits c.args.parts.now (ask.Fail c.args.self.0) (did.Fail c.args.self.0) (λ w s. refl) (λ x. refl) c.fail.result c.fail.ensures

pub returns-clause-denies : goal.returns-clause-denies
returns-clause-denies g c = denies c.args.parts.now (ask.Fail c.args.self.0) (did.Fail c.args.self.0) (λ w s. refl) tt c.fail.result c.fail.ensures
