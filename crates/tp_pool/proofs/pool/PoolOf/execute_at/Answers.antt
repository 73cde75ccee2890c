use Rattle.std.proofs.Common.{subst}
use Rattle.std.specs.Prelude.{IfOk, IfErr}
use Rattle.tp_pool.specs.Admissions.{IsAdmitted, IsTurnedAway}
use Rattle.tp_pool.proofs.pool.PoolOf.execute_at.Goals as goal

pub returns-clause-admitted : goal.returns-clause-admitted
returns-clause-admitted g c =
    let terms = g.K.Recorder.terms g.G.PoolNaming.config in
    subst (λ p. IfOk c.execute_by.result (IsAdmitted terms c.args.kind c.args.priority c.args.job p c.args.pass.now c.execute_by.new.pass)) c.promise-promise.ensures c.execute_by.ensures.admitted

pub returns-clause-refused : goal.returns-clause-refused
returns-clause-refused g c =
    let terms = g.K.Recorder.terms g.G.PoolNaming.config in
    subst (λ p. IfErr c.execute_by.result (IsTurnedAway g.K.Recorder.RECEIPTS terms c.args.kind c.args.priority c.args.job p c.args.pass.now c.execute_by.new.pass)) c.promise-promise.ensures c.execute_by.ensures.refused
