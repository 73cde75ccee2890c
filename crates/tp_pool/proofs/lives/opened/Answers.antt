use Rattle.std.proofs.Common.{◌≡◌, sym, subst}
use Rattle.std.proofs.lemmas.Result.{IfOk-weaker, IfErr-weaker}
use Rattle.tp_pool.specs.Lives.{IsClosedRun, IsOver}
use Rattle.tp_pool.proofs.lives.opened.Goals as goal

pub returns-in-Ok-clause-run : goal.returns-in-Ok-clause-run
returns-in-Ok-clause-run g c =
    IfOk-weaker c.entered.result _ _
    (λ r run. subst (λ s. IsClosedRun g.K.Reporter.told g.K.Recorder.RECEIPTS s (g.K.Recorder.terms s) g.J.Job.promised g.J.Job.urgency c.args.jobs.items r.0.items r.1) (sym c.requires.settings)
    (record { first = c.in-Ok.pass; opened = c.in-Ok.ensures.pass; new = run.0; other = run.1; answered = run.2; reports = run.3 }))
    c.entered.ensures.run

pub returns-in-Ok-clause-over : goal.returns-in-Ok-clause-over
returns-in-Ok-clause-over g c = IfErr-weaker c.entered.result _ _ (λ e is. subst (λ s. IsOver s (g.K.Recorder.terms s) e) (sym c.requires.settings) is) c.entered.ensures.over
