use Rattle.std.proofs.Common.{◌≡◌, rules}
use Rattle.std.specs.Prelude.{Ok, None}
use Rattle.tp_pool_holds.proofs.Receipts.{looks_behind}
use Rattle.tp_service.proofs.Closed.{closed_read}
use Rattle.tp_service.proofs.Gathered.{cancels, needs_no_cancel}
use Rattle.tp_service.proofs.invoking.cancel_open.Goals as goal

pub returns-then-ne : goal.returns-then-ne
returns-then-ne g c =
    let config = g.K.Recorder.terms g.G.PoolNaming.config in
    let told = c.result_with.ensures in
    let looks = looks_behind config c.args.pass.now c.forget_abandoned.new.pass c.result_with.new.pass (c.forget_abandoned.ensures.shown, c.forget_abandoned.ensures.goes_on) told.looks in
    let on : ¬ (c.result_with.result ≡ Ok None) = search rules in
    needs_no_cancel g.K.Recorder.RECEIPTS config c.args.t c.args.pass.now c.result_with.new.pass looks
    (closed_read g.K.Recorder.RECEIPTS config c.args.t c.result_with.new.pass c.result_with.result told.reads on)

pub returns : goal.returns
returns g c =
    let config = g.K.Recorder.terms g.G.PoolNaming.config in
    let looks = looks_behind config c.args.pass.now c.forget_abandoned.new.pass c.result_with.new.pass (c.forget_abandoned.ensures.shown, c.forget_abandoned.ensures.goes_on) c.result_with.ensures.looks in
    cancels g.K.Recorder.RECEIPTS config c.args.t c.args.pass.now c.result_with.new.pass c.cancel.new.pass looks
    c.cancel.result c.cancel.ensures.step c.cancel.ensures.refused c.cancel.ensures.unchanged
