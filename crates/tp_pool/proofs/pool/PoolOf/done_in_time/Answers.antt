use Rattle.std.proofs.Common.{inl, inr, refl, rules}
use Rattle.tp_types.specs.declared.refusals.PoolError.TheVariants.{NotThere}
use Rattle.tp_record.specs.declared.entries.Ask.TheVariants as ask
use Rattle.tp_record.specs.declared.entries.Did.TheVariants as did
use Rattle.tp_machine.specs.Readings.{HasOpen}
use Rattle.tp_machine.specs.Steps.{IsRefusedAt}
use Rattle.tp_pool_holds.specs.Moments.{AtFront}
use Rattle.tp_pool_holds.specs.Passes.{AddsStep, LooksOnly}
use Rattle.tp_pool_holds.proofs.Receipts.{later_looks, later_none, looks_behind, step_behind}
use Rattle.tp_pool.proofs.pool.PoolOf.done_in_time.Goals as goal

pub returns-in-Ok-Some-clause-step : goal.returns-in-Ok-Some-clause-step
returns-in-Ok-Some-clause-step g c =
    let config = (g.K.Recorder.terms g.G.PoolNaming.config) in
    let step : AddsStep config c.loop.pass (ask.TakeDone c.args.group) (did.TakeDone c.args.group c.in-Ok-Some.t) c.await_done.new.pass = search rules in
    step_behind config c.args.pass.now c.loop.pass c.await_done.new.pass (ask.TakeDone c.args.group) (did.TakeDone c.args.group c.in-Ok-Some.t)
    (later_none c.args.pass.now c.loop.pass c.loop.invariant.2) step

pub loop-preserved : goal.loop-preserved
loop-preserved g c =
    let looks : LooksOnly (g.K.Recorder.terms g.G.PoolNaming.config) c.loop.pass c.await_done.new.pass = search rules in
    (tt, tt, later_looks (g.K.Recorder.terms g.G.PoolNaming.config) c.args.pass.now c.loop.pass c.await_done.new.pass c.loop.invariant.2 looks)

pub returns-in_default-clause-refused : goal.returns-in_default-clause-refused
returns-in_default-clause-refused g c =
    let config = (g.K.Recorder.terms g.G.PoolNaming.config) in
    let waits : AtFront config c.await_done.new.pass.front (λ s. HasOpen c.args.group s × IsRefusedAt config s (ask.TakeDone c.args.group) NotThere) = search rules in
    record { legal = waits.legal; holds = inr (refl, waits.holds.0, waits.holds.1) }

pub returns-in_default-clause-unchanged : goal.returns-in_default-clause-unchanged
returns-in_default-clause-unchanged g c =
    let config = (g.K.Recorder.terms g.G.PoolNaming.config) in
    let looks : LooksOnly config c.loop.pass c.await_done.new.pass = search rules in
    looks_behind config c.args.pass.now c.loop.pass c.await_done.new.pass c.loop.invariant.2 looks

pub returns-in-Err-clause-refused : goal.returns-in-Err-clause-refused
returns-in-Err-clause-refused g c =
    let refused = c.in-Err.ensures.refused in
    record { legal = refused.legal; holds = inl refused.holds }

pub returns-in-Err-clause-unchanged : goal.returns-in-Err-clause-unchanged
returns-in-Err-clause-unchanged g c =
    looks_behind (g.K.Recorder.terms g.G.PoolNaming.config) c.args.pass.now c.loop.pass c.await_done.new.pass c.loop.invariant.2 c.in-Err.ensures.unchanged
