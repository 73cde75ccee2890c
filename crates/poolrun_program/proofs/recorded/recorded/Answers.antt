use Rattle.std.proofs.Common.{subst, true}
use Rattle.std.proofs.lemmas.Result.{IfOk-weaker}
use Rattle.tp_book.specs.Reports.{TellsRecord}
use Rattle.poolrun_program.specs.Runs.{IsLife, asked}
use Rattle.poolrun_program.proofs.Ends.{is_run}
use Rattle.poolrun_program.proofs.recorded.recorded.Goals as goal

pub returns-clause-run : goal.returns-clause-run
returns-clause-run g c =
    let config = c.args.jobs.now.config in
    let jobs = c.args.jobs.now.jobs.items in
    IfOk-weaker c.life.result _ _
    (λ r life. is_run config (asked jobs) r (subst (λ js. IsLife TellsRecord true config config (asked js) r) c.as_slice.ensures.value life))
    c.life.ensures.run
