use Rattle.std.proofs.Common.{refl, inr}
use Rattle.tp_record.specs.declared.entries.Ask.TheVariants as ask
use Rattle.tp_record.specs.declared.entries.Did.TheVariants as did
use Rattle.tp_machine_state.proofs.Rules.{fits_at, denies_at}
use Rattle.tp_machine_workers.proofs.leave.LeaveStep.answer.Goals as goal

pub returns-clause-fits : goal.returns-clause-fits
returns-clause-fits g c = fits_at c.args.parts.now (ask.Leave c.args.self.0) (did.Leave c.args.self.0) c.args.self.0.0 (λ w s. refl) (λ s reads. inr refl) c.leave.result c.leave.ensures.answers

pub returns-clause-denies : goal.returns-clause-denies
returns-clause-denies g c = denies_at c.args.parts.now (ask.Leave c.args.self.0) (did.Leave c.args.self.0) c.args.self.0.0 (λ w s. refl) tt c.leave.result c.leave.ensures.answers
