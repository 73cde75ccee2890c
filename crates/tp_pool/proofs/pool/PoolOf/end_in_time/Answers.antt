use Rattle.std.proofs.Common.{[], ◌∷◌, inl, refl, rules}
use Rattle.tp_pool_holds.specs.Passes.{Adds, LooksOnly, tidied}
use Rattle.tp_pool_holds.proofs.Receipts.{later_looks, later_none, looks_adds, looks_behind, step_behind}
use Rattle.tp_record.specs.declared.entries.Ask.TheVariants as ask
use Rattle.tp_record.specs.declared.entries.Did.TheVariants as did
use Rattle.tp_pool_holds.proofs.Ends.{end_steps, end_refused}
use Rattle.tp_pool.proofs.Got.{never_late}
use Rattle.tp_pool.proofs.pool.PoolOf.end_in_time.Goals as goal

pub returns-in-Terminated-clause-steps : goal.returns-in-Terminated-clause-steps
returns-in-Terminated-clause-steps g c =
    let config = (g.K.Recorder.terms g.G.PoolNaming.config) in
    let looks : LooksOnly config c.loop.pass c.look.new.pass = c.look.ensures.others (λ tidied. cc) in
    inl (looks_adds config c.args.pass.now c.look.new.pass (looks_behind config c.args.pass.now c.loop.pass c.look.new.pass c.loop.invariant.2 looks))

pub returns-in-Late-clause-refused : goal.returns-in-Late-clause-refused
returns-in-Late-clause-refused g c =
    let config = (g.K.Recorder.terms g.G.PoolNaming.config) in
    let looks : LooksOnly config c.loop.pass c.look.new.pass = c.look.ensures.others (λ tidied. cc) in
    inl (refl, looks_adds config c.args.pass.now c.look.new.pass (looks_behind config c.args.pass.now c.loop.pass c.look.new.pass c.loop.invariant.2 looks))

pub returns-in-Tidied-clause-steps : goal.returns-in-Tidied-clause-steps
returns-in-Tidied-clause-steps g c =
    let config = (g.K.Recorder.terms g.G.PoolNaming.config) in
    let step : Adds config c.loop.pass (tidied c.loop.pass.number ∷ []) c.look.new.pass = search rules in
    let first = step_behind config c.args.pass.now c.loop.pass c.look.new.pass ask.Tidy did.Tidy (later_none c.args.pass.now c.loop.pass c.loop.invariant.2) step in
    end_steps config c.args.pass.now c.look.new.pass c.terminate.new.pass first c.terminate.result c.terminate.ensures.step

pub returns-in-Tidied-clause-refused : goal.returns-in-Tidied-clause-refused
returns-in-Tidied-clause-refused g c =
    let config = (g.K.Recorder.terms g.G.PoolNaming.config) in
    let step : Adds config c.loop.pass (tidied c.loop.pass.number ∷ []) c.look.new.pass = search rules in
    let first = step_behind config c.args.pass.now c.loop.pass c.look.new.pass ask.Tidy did.Tidy (later_none c.args.pass.now c.loop.pass c.loop.invariant.2) step in
    end_refused config c.args.pass.now c.look.new.pass c.terminate.new.pass first c.terminate.result c.terminate.ensures.refused c.terminate.ensures.unchanged

pub returns-in-Tidied-clause-late : goal.returns-in-Tidied-clause-late
returns-in-Tidied-clause-late g c = never_late _ _ c.terminate.result c.terminate.ensures.refused

pub loop-preserved : goal.loop-preserved
loop-preserved g c =
    let looks : LooksOnly (g.K.Recorder.terms g.G.PoolNaming.config) c.loop.pass c.look.new.pass = c.look.ensures.others (λ tidied. cc) in
    (tt, tt, later_looks (g.K.Recorder.terms g.G.PoolNaming.config) c.args.pass.now c.loop.pass c.look.new.pass c.loop.invariant.2 looks)
