use Rattle.std.proofs.Common.{◌≤◌, subst, inl, sym, true≢false}
use Rattle.std.proofs.Math.Nat.{lt_of_not-le}
use Rattle.std.specs.Prelude.{IfOk}
use Rattle.tp_record.specs.Fields.{rank}
use Rattle.tp_record.specs.declared.entries.Ask.TheVariants as ask
use Rattle.tp_record.specs.declared.entries.Did.TheVariants as did
use Rattle.tp_pool_holds.specs.Passes.{AddsStep}
use Rattle.tp_pool_holds.proofs.Receipts.{reserved}
use Rattle.tp_pool_holds.proofs.Ends.{reached, step_and_end}
use Rattle.tp_pool.proofs.pool.PoolOf.shutdown_by.Goals as goal

pub returns-in-Ok-clause-steps : goal.returns-in-Ok-clause-steps
returns-in-Ok-clause-steps g c =
    let step : AddsStep (g.K.Recorder.terms g.G.PoolNaming.config) c.reserve.new.self ask.Shutdown did.Shutdown c.ask_left-shut.new.pass =
    subst (λ r. IfOk r (λ _. AddsStep (g.K.Recorder.terms g.G.PoolNaming.config) c.reserve.new.self ask.Shutdown did.Shutdown c.ask_left-shut.new.pass)) c.in-Ok.is c.ask_left-shut.ensures.step in
    step_and_end (g.K.Recorder.terms g.G.PoolNaming.config) c.args.pass.now c.reserve.new.self c.ask_left-shut.new.pass c.try_end.new.pass ask.Shutdown did.Shutdown
    (reserved c.args.pass.now c.reserve.new.self c.reserve.ensures.same) step c.try_end.ensures

pub returns-in-Ok-clause-seen : goal.returns-in-Ok-clause-seen
returns-in-Ok-clause-seen g c =
    let step : AddsStep (g.K.Recorder.terms g.G.PoolNaming.config) c.reserve.new.self ask.Shutdown did.Shutdown c.ask_left-shut.new.pass =
    subst (λ r. IfOk r (λ _. AddsStep (g.K.Recorder.terms g.G.PoolNaming.config) c.reserve.new.self ask.Shutdown did.Shutdown c.ask_left-shut.new.pass)) c.in-Ok.is c.ask_left-shut.ensures.step in
    let ends = step_and_end (g.K.Recorder.terms g.G.PoolNaming.config) c.args.pass.now c.reserve.new.self c.ask_left-shut.new.pass c.try_end.new.pass ask.Shutdown did.Shutdown
    (reserved c.args.pass.now c.reserve.new.self c.reserve.ensures.same) step c.try_end.ensures in
    reached (g.K.Recorder.terms g.G.PoolNaming.config) c.args.pass.now c.try_end.new.pass _ ends.0 ends.2

pub returns-in-Err-clause-refused : goal.returns-in-Err-clause-refused
returns-in-Err-clause-refused g c = inl (c.in-Err.ensures.refused, lt_of_not-le (λ room. true≢false (sym (c.in-Err.ensures.none_needed room))))
