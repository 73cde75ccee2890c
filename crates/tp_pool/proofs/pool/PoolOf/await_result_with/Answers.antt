use Rattle.std.proofs.Common.{◌≡◌, subst}
use Rattle.std.specs.Prelude.{Some}
use Rattle.std.specs.Result.{result_transpose}
use Rattle.tp_glance.proofs.Fronts.{IsFrontOf_trans}
use Rattle.tp_pool_holds.specs.Moments.{BookOf}
use Rattle.tp_pool_holds.specs.Readings.{IsFound}
use Rattle.tp_pool_holds.specs.declared.tasks.Payload.{Payload}
use Rattle.tp_pool_holds.proofs.Receipts.{later_looks, looks_behind}
use Rattle.tp_pool.proofs.Got.{got_is}
use Rattle.tp_pool.proofs.pool.PoolOf.await_result_with.Goals as goal

pub returns-in-Some-transpose : goal.returns-in-Some-transpose
returns-in-Some-transpose g c =
    let config = (g.K.Recorder.terms g.G.PoolNaming.config) in
    let found = c.show_awaited-found.result in
    let answer = c.in-Some-transpose.answer in
    let is : result_transpose found ≡ Some answer = subst (λ k. k ≡ Some answer) c.transpose.ensures c.in-Some-transpose.is in record {
      reads = subst (λ r. BookOf (Payload g.row.J.Denot) config c.show_awaited-found.new.pass (λ b. IsFound b c.args.t.0 g.K.Recorder.RECEIPTS c.args.deadline r)) (got_is found answer is) c.show_awaited-found.ensures.reads;
      looks = looks_behind config c.args.pass.now c.loop.pass c.show_awaited-found.new.pass c.loop.invariant.2 c.show_awaited-found.ensures.looks;
      knew = IsFrontOf_trans c.loop.invariant.3 c.show_awaited-found.ensures.knew;
    }

pub loop-preserved : goal.loop-preserved
loop-preserved g c =
    let told = c.show_awaited-found.ensures in (
      tt,
      tt,
      later_looks (g.K.Recorder.terms g.G.PoolNaming.config) c.args.pass.now c.loop.pass c.show_awaited-found.new.pass c.loop.invariant.2 told.looks,
      IsFrontOf_trans c.loop.invariant.3 told.knew,
    )
