use Rattle.std.proofs.Common.{sym, subst}
use Rattle.tp_machine.specs.Steps.{IsStep, IsRefusedBy}
use Rattle.tp_machine.proofs.Moved.{promises_stay}
use Rattle.tp_types.specs.declared.tasks.TheConstants.{WIDEST}
use Rattle.tp_machine.proofs.Running.{all_kept}
use Rattle.tp_machine.proofs.runs.answer.Goals as goal

pub returns-in-Ok-step : goal.returns-in-Ok-step
returns-in-Ok-step g c =
    let old = c.args.machine.now in
    let new = c.step.new.self in
    let made = c.in-Ok-step.ensures in
    record {
      step = subst (λ d. IsStep g.R.Recorder.tells old new c.args.by c.args.ask d) (sym c.did.ensures) made.step;
      refused = tt;
      unchanged = tt;
      config = made.step.config;
      promises = all_kept WIDEST old.parts.tasks new.parts.tasks (promises_stay old.parts.tasks new.parts.tasks c.args.ask c.in-Ok-step.stepped made.answer made.payloads) c.requires;
    }

pub returns-in-Err-clause-refused : goal.returns-in-Err-clause-refused
returns-in-Err-clause-refused g c = subst (λ a. IsRefusedBy g.R.Recorder.tells c.args.machine.now a c.in-Err.error) (sym c.in-Submit.is) c.in-Err.ensures.refused
