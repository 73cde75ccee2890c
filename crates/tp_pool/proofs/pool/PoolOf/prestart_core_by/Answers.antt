use Rattle.std.proofs.Common.{inl, sym, true≢false}
use Rattle.std.proofs.Math.Nat.{lt_of_not-le}
use Rattle.std.specs.Prelude.{Result, Ok, Err, IfOk}
use Rattle.tp_pool_holds.proofs.Receipts.{reserved}
use Rattle.tp_pool.proofs.Starts.{prestarts_behind}
use Rattle.tp_pool.proofs.pool.PoolOf.prestart_core_by.Goals as goal

pub returns-clause-steps : goal.returns-clause-steps
returns-clause-steps g c =
    prestarts_behind (g.K.Recorder.terms g.G.PoolNaming.config) c.args.pass.now c.reserve.new.self c.prestart.new.pass c.prestart.result
    (reserved c.args.pass.now c.reserve.new.self c.reserve.ensures.same) c.prestart.ensures.steps

pub returns-in-Err-clause-refused : goal.returns-in-Err-clause-refused
returns-in-Err-clause-refused g c = inl (c.in-Err.ensures.refused, lt_of_not-le (λ room. true≢false (sym (c.in-Err.ensures.none_needed room))))
