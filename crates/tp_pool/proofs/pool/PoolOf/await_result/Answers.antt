use Rattle.std.proofs.Common.{◌≡◌, subst}
use Rattle.std.specs.Prelude.{Some}
use Rattle.std.specs.Result.{result_transpose}
use Rattle.tp_pool_holds.specs.Moments.{BookAtSome}
use Rattle.tp_pool_holds.specs.Readings.{IsFound}
use Rattle.tp_pool_holds.specs.declared.tasks.Payload.{Payload}
use Rattle.tp_pool.proofs.Got.{got_is}
use Rattle.tp_pool.proofs.pool.PoolOf.await_result.Goals as goal

pub returns-in-Some-transpose : goal.returns-in-Some-transpose
returns-in-Some-transpose g c =
    let found = c.await_result.result in
    let answer = c.in-Some-transpose.answer in
    let is : result_transpose found ≡ Some answer = subst (λ k. k ≡ Some answer) c.transpose.ensures c.in-Some-transpose.is in
    subst (λ r. BookAtSome (Payload g.row.J.Denot) (g.K.Recorder.terms g.G.PoolNaming.config) (λ b. IsFound b c.args.t.0 g.K.Recorder.RECEIPTS c.args.deadline r)) (got_is found answer is) c.await_result.ensures.some
