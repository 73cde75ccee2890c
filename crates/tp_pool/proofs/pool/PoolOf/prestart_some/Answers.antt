use Rattle.std.proofs.Common.{◌≡◌, ◌<◌, inl, inr, refl, ap, sym, subst, ◌∙◌, arith}
use Rattle.std.specs.Prelude.{length}
use Rattle.tp_record.specs.Step.{Legal}
use Rattle.tp_pool_holds.proofs.Receipts.{none_added}
use Rattle.tp_pool.specs.Prestarts.{AddsPrestart, IsServed}
use Rattle.tp_pool.proofs.Starts.{Started, looked, none_started, one_more, starts_all, starts_fail, starts_stop}
use Rattle.tp_pool.proofs.pool.PoolOf.prestart_some.Goals as goal

pub loop-init : goal.loop-init
loop-init g c =
    let pass = c.args.pass.now in
    (none_started (g.K.Recorder.terms g.G.PoolNaming.config) pass pass (none_added pass pass refl), omega arith, c.requires.legal)

pub loop-preserved : goal.loop-preserved
loop-preserved g c =
    let config = (g.K.Recorder.terms g.G.PoolNaming.config) in
    let more = subst (λ live. AddsPrestart config c.look.new.pass live c.prestart.new.pass) c.in-Ok-true.field-0-test c.in-Ok-true.ensures.steps in (
      one_more config c.args.pass.now c.look.new.pass c.prestart.new.pass c.loop.counter
          (looked config c.args.pass.now c.loop.pass c.look.new.pass c.loop.counter c.loop.invariant.0 c.look.ensures.looks) more,
      omega (arith, c.loop.invariant.1, c.in-Ok-true.ensures.left, ap (λ p. p.room) c.look.ensures.looks.0),
      more.2.legal,
    )

pub returns-then-look-eq0 : goal.returns-then-look-eq0
returns-then-look-eq0 g c =
    let config = (g.K.Recorder.terms g.G.PoolNaming.config) in
    let reads = c.look.ensures.reads in (
      c.loop.counter,
      starts_stop config (IsServed config) c.args.pass.now c.loop.pass c.look.new.pass c.loop.counter c.args.most c.loop.invariant.0 (omega arith) c.look.ensures.looks
          (inl (record { legal = reads.legal; holds = sym (ap (λ k. k.queued) reads.holds.1) ∙ c.if-look-eq0.true })),
    )

pub returns-in-Ok-false : goal.returns-in-Ok-false
returns-in-Ok-false g c =
    let config = (g.K.Recorder.terms g.G.PoolNaming.config) in (
      c.loop.counter,
      starts_fail config (IsServed config) c.args.pass.now c.look.new.pass c.prestart.new.pass c.loop.counter c.args.most
          (looked config c.args.pass.now c.loop.pass c.look.new.pass c.loop.counter c.loop.invariant.0 c.look.ensures.looks) (omega arith)
          (subst (λ live. AddsPrestart config c.look.new.pass live c.prestart.new.pass) c.in-Ok-false.field-0-test c.in-Ok-false.ensures.steps),
    )

pub returns-in-Err : goal.returns-in-Err
returns-in-Err g c =
    let config = (g.K.Recorder.terms g.G.PoolNaming.config) in (
      c.loop.counter,
      starts_stop config (IsServed config) c.args.pass.now c.look.new.pass c.prestart.new.pass c.loop.counter c.args.most
          (looked config c.args.pass.now c.loop.pass c.look.new.pass c.loop.counter c.loop.invariant.0 c.look.ensures.looks) (omega arith)
          c.in-Err.ensures.unchanged (inr (c.in-Err.field-0, c.in-Err.ensures.refused)),
    )

pub returns : goal.returns
returns g c =
    let config = (g.K.Recorder.terms g.G.PoolNaming.config) in
    let all : c.loop.counter ≡ c.args.most = omega arith in (
      c.args.most,
      starts_all config (IsServed config) c.args.pass.now c.loop.pass c.args.most
          (subst (λ n. Started config c.args.pass.now n c.loop.pass) all c.loop.invariant.0) c.loop.invariant.2,
    )
