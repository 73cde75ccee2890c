use Rattle.std.proofs.Common.{sym, subst}
use Rattle.tp_pool.specs.Admissions.{IsTurnedAway}
use Rattle.tp_life.specs.declared.tasks.TheConstants.{VOID}
use Rattle.tp_life.proofs.seats.CallerSeatCalls.enter.Goals as goal

pub returns-in-Err-execute_by-clause-refused : goal.returns-in-Err-execute_by-clause-refused
returns-in-Err-execute_by-clause-refused g c =
    let terms = g.K.Recorder.terms g.G.PoolNaming.config in
    let keeps = g.K.Recorder.RECEIPTS in
    let away = subst (λ job. IsTurnedAway keeps terms c.args.kind c.priority-priority.result job VOID c.args.self.now.pass c.execute_by.new.pass c.in-Err-execute_by.refused) c.in-Ok.ensures.held c.in-Err-execute_by.ensures.refused in (
      c.priority-priority.result,
      c.priority-priority.ensures,
      subst (λ r. IsTurnedAway keeps terms c.args.kind c.priority-priority.result c.args.task VOID c.args.self.now.pass c.execute_by.new.pass r) (sym c.untaken.ensures) away,
    )
