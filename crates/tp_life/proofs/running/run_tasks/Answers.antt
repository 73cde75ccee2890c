use Rattle.std.proofs.Common.{length, subst}
use Rattle.tp_pool.specs.Lives.{IsRun, sized}
use Rattle.tp_life.specs.declared.tasks.TheConstants.{VOID}
use Rattle.tp_life.proofs.running.run_tasks.Goals as goal

pub returns-in-Ok-told-clause-run : goal.returns-in-Ok-told-clause-run
returns-in-Ok-told-clause-run g c =
    let answers = c.in-Ok-run_all.run'.0.items in
    let report = c.in-Ok-run_all.run'.1 in
    record {
      answers = answers;
      run = subst (λ jobs. IsRun (sized c.args.settings (length jobs)) (λ _. VOID) g.W.Task.urgency jobs answers report) c.in-Ok.ensures.held c.in-Ok-run_all.ensures.run;
      told = c.in-Ok-told.ensures.told;
    }
