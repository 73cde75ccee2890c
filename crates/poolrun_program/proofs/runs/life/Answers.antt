use Rattle.std.proofs.Common.{sym, subst}
use Rattle.std.proofs.lemmas.Result.{IfOk-weaker}
use Rattle.poolrun_program.specs.Runs.{IsLife, asked}
use Rattle.poolrun_program.proofs.runs.life.Goals as goal

pub returns-in-Ok-submitted-clause-run : goal.returns-in-Ok-submitted-clause-run
returns-in-Ok-submitted-clause-run g c =
    IfOk-weaker c.closed-report.result _ (IsLife g.K.Reporter.told g.K.Recorder.RECEIPTS c.args.settings (g.K.Recorder.terms c.args.settings) (asked c.args.jobs.now))
    (λ r closed. subst (λ s. IsLife g.K.Reporter.told g.K.Recorder.RECEIPTS s (g.K.Recorder.terms s) (asked c.args.jobs.now) r) (sym c.requires.settings) (record {
      first = c.in-Ok.opened.1;
      opened = c.in-Ok.ensures.pass;
      submitted = c.submit_all-submitted.new.pass;
      submits = c.in-Ok-submitted.ensures.whole;
      last = closed.0;
      ends = closed.1;
      closes = closed.2;
    })) c.closed-report.ensures.report
