use Rattle.std.proofs.Common.{sym, subst, true}
use Rattle.std.proofs.lemmas.Result.{IfOk-weaker}
use Rattle.tp_book.specs.Reports.{TellsRecord}
use Rattle.poolrun_program.specs.Runs.{AddsSubmissions, IsLife, asked}
use Rattle.poolrun_program.proofs.recorded.life.Goals as goal

pub returns-in-Ok-submitted-clause-run : goal.returns-in-Ok-submitted-clause-run
returns-in-Ok-submitted-clause-run g c =
    IfOk-weaker c.closed-report.result _ (IsLife TellsRecord true c.args.settings c.args.settings (asked c.args.jobs.now))
    (λ r closed. subst (λ s. IsLife TellsRecord true s s (asked c.args.jobs.now) r) (sym c.requires.settings) (record {
      first = c.in-Ok.opened.1;
      opened = c.in-Ok.ensures.pass;
      submitted = c.submit_all-submitted.new.pass;
      submits =
          subst (λ p. AddsSubmissions g.G.PoolNaming.config (asked c.args.jobs.now) p c.submit_all-submitted.new.pass) c.start.ensures.same c.in-Ok-submitted.ensures.whole;
      last = closed.0;
      ends = closed.1;
      closes = closed.2;
    })) c.closed-report.ensures.report
