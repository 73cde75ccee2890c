use Rattle.std.proofs.lemmas.Result.{IfErr-weaker}
use Rattle.tp_book.specs.PassView.{PassView}
use Rattle.tp_pool_holds.specs.Passes.{AddsNone}
use Rattle.tp_pool_holds.specs.declared.tasks.Payload.{Payload}
use Rattle.tp_pool_holds.proofs.Receipts.{none_behind}
use Rattle.tp_service.specs.Futures.{HaveFailed}
use Rattle.tp_service.proofs.invoking.await_any.Goals as goal

pub loop-preserved : goal.loop-preserved
loop-preserved g c = (tt, tt, none_behind c.args.pass.now c.loop.pass c.any_of.new.pass c.loop.invariant.2 c.any_of.ensures.looks)

pub returns-in-Some-any_of-clause-failed : goal.returns-in-Some-any_of-clause-failed
returns-in-Some-any_of-clause-failed g c =
    let new = c.any_of.new.pass in
    IfErr-weaker c.in-Some-any_of.answer (λ e. HaveFailed (Payload g.row.J.Denot) g.K.Recorder.RECEIPTS (g.K.Recorder.terms g.G.PoolNaming.config) c.args.tasks.now e c.loop.pass new)
    (λ e. (mid : PassView) × AddsNone c.args.pass.now mid × HaveFailed (Payload g.row.J.Denot) g.K.Recorder.RECEIPTS (g.K.Recorder.terms g.G.PoolNaming.config) c.args.tasks.now e mid new)
    (λ e failed. (c.loop.pass, c.loop.invariant.2, failed)) c.in-Some-any_of.ensures.failed

pub returns-in-Some-any_of-clause-looks : goal.returns-in-Some-any_of-clause-looks
returns-in-Some-any_of-clause-looks g c = none_behind c.args.pass.now c.loop.pass c.any_of.new.pass c.loop.invariant.2 c.any_of.ensures.looks
