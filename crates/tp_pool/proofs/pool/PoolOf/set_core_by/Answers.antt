use Rattle.std.proofs.Common.{◌≤◌, ◌<◌, ◌+◌, ◌*◌, arith, inl, sym, true≢false}
use Rattle.std.proofs.Math.Nat.{lt_of_not-le}
use Rattle.tp_pool_holds.proofs.Receipts.{reserved}
use Rattle.tp_pool.specs.Prestarts.{IsServed}
use Rattle.tp_pool.proofs.Starts.{core_and_starts}
use Rattle.tp_pool.proofs.pool.PoolOf.set_core_by.Goals as goal

pub returns-clause-steps : goal.returns-clause-steps
returns-clause-steps g c =
    let config = (g.K.Recorder.terms g.G.PoolNaming.config) in
    let added = c.in-Ok.added in
    let starts = c.prestart_some.ensures in
    let within : c.min-starts.result ≤ c.in-Ok.added = omega arith in (
      added,
      c.min-starts.result,
      starts.0,
      within,
      (λ (fewer : c.min-starts.result < c.in-Ok.added). λ (small : c.min-starts.result < c.args.core). omega (arith, fewer, small)),
      core_and_starts config (IsServed config) c.args.pass.now c.reserve.new.self c.ask.new.pass c.prestart_some.new.pass c.args.core added c.min-starts.result starts.0
          (reserved c.args.pass.now c.reserve.new.self c.reserve.ensures.same) c.in-Ok.ensures.step starts.1,
    )

pub returns-in-Err-clause-refused : goal.returns-in-Err-clause-refused
returns-in-Err-clause-refused g c =
    let short : c.args.pass.now.room < 1 + 2 * c.min-most.result = lt_of_not-le (λ room. true≢false (sym (c.in-Err.ensures.none_needed room))) in
    inl (c.in-Err.ensures.refused, (omega (arith, short), omega (arith, short)))
