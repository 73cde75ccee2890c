use Rattle.std.proofs.Common.{rules}
use Rattle.tp_record.specs.declared.entries.Ask.TheVariants as ask
use Rattle.tp_record.specs.declared.entries.Did.TheVariants as did
use Rattle.tp_pool_holds.specs.Passes.{AddsStep, LooksOnly}
use Rattle.tp_pool_holds.proofs.Receipts.{later_looks, later_none, looks_behind, step_behind}
use Rattle.tp_pool_holds.proofs.shared.Shared.await_done.Goals as goal

pub returns-in-Ok-Some-clause-step : goal.returns-in-Ok-Some-clause-step
returns-in-Ok-Some-clause-step g c =
    let config = (g.K.Recorder.terms g.G.PoolNaming.config) in
    let step : AddsStep config c.loop.pass (ask.TakeDone c.args.group) (did.TakeDone c.args.group c.in-Ok-Some.t) c.await_done.new.pass = search rules in
    step_behind config c.args.pass.now c.loop.pass c.await_done.new.pass (ask.TakeDone c.args.group) (did.TakeDone c.args.group c.in-Ok-Some.t)
    (later_none c.args.pass.now c.loop.pass c.loop.invariant.2) step

pub loop-preserved : goal.loop-preserved
loop-preserved g c =
    let looks : LooksOnly (g.K.Recorder.terms g.G.PoolNaming.config) c.loop.pass c.await_done.new.pass = search rules in
    (tt, tt, later_looks (g.K.Recorder.terms g.G.PoolNaming.config) c.args.pass.now c.loop.pass c.await_done.new.pass c.loop.invariant.2 looks)

pub returns-in-Err-clause-unchanged : goal.returns-in-Err-clause-unchanged
returns-in-Err-clause-unchanged g c =
    looks_behind (g.K.Recorder.terms g.G.PoolNaming.config) c.args.pass.now c.loop.pass c.await_done.new.pass c.loop.invariant.2 c.in-Err.ensures.unchanged
