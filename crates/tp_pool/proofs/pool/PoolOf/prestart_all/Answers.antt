use Rattle.std.proofs.Common.{◌≡◌, ◌+◌, ap, arith, subst, inl, sym, true≢false}
use Rattle.std.proofs.Math.Nat.{lt_of_not-le}
use Rattle.tp_pool_holds.proofs.Receipts.{looks_none, none_behind, reserved}
use Rattle.tp_pool.specs.Prestarts.{AddsPrestart, IsRefusedMore}
use Rattle.tp_pool.proofs.Starts.{Started, none_started, one_more, prestart_asks, starts_all, starts_fail, starts_stop}
use Rattle.tp_pool.proofs.pool.PoolOf.prestart_all.Goals as goal

pub loop-live-init : goal.loop-live-init
loop-live-init g c =
    let none = reserved c.args.pass.now c.reserve.new.self c.reserve.ensures.same in
    (none_started (g.K.Recorder.terms g.G.PoolNaming.config) c.args.pass.now c.reserve.new.self none, grind arith, λ _. none)

pub loop-live-preserved : goal.loop-live-preserved
loop-live-preserved g c =
    let config = (g.K.Recorder.terms g.G.PoolNaming.config) in (
      one_more config c.args.pass.now c.loop-live.pass c.prestart.new.pass c.loop-live.live c.loop-live.invariant.0
          (subst (λ live. AddsPrestart config c.loop-live.pass live c.prestart.new.pass) c.in-Ok-true.field-0-test c.in-Ok-true.ensures.steps),
      omega (arith, c.loop-live.invariant.1, c.in-Ok-true.ensures.left),
      λ (none : c.loop-live.live + 1 ≡ 0). absurd (omega arith),
    )

pub returns-in-Err-prestart-clause-unchanged : goal.returns-in-Err-prestart-clause-unchanged
returns-in-Err-prestart-clause-unchanged g c =
    let first : c.loop-live.live ≡ 0 = omega arith in
    none_behind c.args.pass.now c.loop-live.pass c.prestart.new.pass (c.loop-live.invariant.2 first)
    (looks_none (g.K.Recorder.terms g.G.PoolNaming.config) c.loop-live.pass c.prestart.new.pass c.in-Err-prestart.ensures.unchanged)

pub returns-in-Ok-false-clause-steps : goal.returns-in-Ok-false-clause-steps
returns-in-Ok-false-clause-steps g c =
    let config = (g.K.Recorder.terms g.G.PoolNaming.config) in
    starts_fail config (IsRefusedMore config) c.args.pass.now c.loop-live.pass c.prestart.new.pass c.loop-live.live 1024 c.loop-live.invariant.0 (omega arith)
    (subst (λ live. AddsPrestart config c.loop-live.pass live c.prestart.new.pass) c.in-Ok-false.field-0-test c.in-Ok-false.ensures.steps)

pub returns-in-Ok-false-clause-asked : goal.returns-in-Ok-false-clause-asked
returns-in-Ok-false-clause-asked g c =
    let asks = prestart_asks (g.K.Recorder.terms g.G.PoolNaming.config) c.loop-live.pass c.prestart.new.pass _ c.in-Ok-false.ensures.steps in
    omega (arith, asks, c.loop-live.invariant.0.amount)

pub returns-in-Err-2-clause-asked : goal.returns-in-Err-2-clause-asked
returns-in-Err-2-clause-asked g c = omega (arith, ap (λ p. p.amount) c.in-Err-2.ensures.unchanged.0, c.loop-live.invariant.0.amount)

pub returns-clause-asked : goal.returns-clause-asked
returns-clause-asked g c = omega (arith, c.loop-live.invariant.0.amount)

pub returns-in-Err-2-clause-steps : goal.returns-in-Err-2-clause-steps
returns-in-Err-2-clause-steps g c =
    let config = (g.K.Recorder.terms g.G.PoolNaming.config) in
    starts_stop config (IsRefusedMore config) c.args.pass.now c.loop-live.pass c.prestart.new.pass c.loop-live.live 1024 c.loop-live.invariant.0 (omega arith)
    c.in-Err-2.ensures.unchanged (c.in-Err-2.field-0, c.in-Err-2.ensures.refused)

pub returns-clause-steps : goal.returns-clause-steps
returns-clause-steps g c =
    let config = (g.K.Recorder.terms g.G.PoolNaming.config) in
    let all : c.loop-live.live ≡ 1024 = omega arith in
    let started = subst (λ n. Started config c.args.pass.now n c.loop-live.pass) all c.loop-live.invariant.0 in
    starts_all config (IsRefusedMore config) c.args.pass.now c.loop-live.pass 1024 started (started.legal (omega arith))

pub returns-in-Err-clause-refused : goal.returns-in-Err-clause-refused
returns-in-Err-clause-refused g c = inl (c.in-Err.ensures.refused, lt_of_not-le (λ room. true≢false (sym (c.in-Err.ensures.none_needed room))))
