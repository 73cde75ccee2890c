use Rattle.std.proofs.Common.{refl, subst, sym}
use Rattle.tp_life.specs.Ticking.{OnlyTicks}
use Rattle.tp_life.proofs.Ticks.{ticks_look, ticks_more, ticks_none}
use Rattle.tp_life.proofs.ticking.Ticker.tell.Goals as goal
use Rattle.tp_life.proofs.ticking.Ticker.tell.Goals.{then-goes_by+in_default-tick, else-goes_by}

pub loop-init : goal.loop-init
loop-init g c = ticks_none g.P.Controls.terms (g.P.Controls.pass c.args.pool.now) (g.P.Controls.pass c.look-steps.new.self) c.look-steps.ensures.looks

pub loop-preserved : goal.loop-preserved
loop-preserved g c =
    let terms = g.P.Controls.terms in
    let p = g.P.Controls.pass in
    let old = p c.args.pool.now in
    let seen = p c.look-seen.new.self in
    let looked = ticks_look terms old (p c.loop.pool) seen c.loop.invariant c.look-seen.ensures.looks in
    elim c.if-goes_by.branch [
      | then-goes_by+in_default-tick w ↦
          subst (λ pool. OnlyTicks terms old (p pool)) (sym w.pool-is) (ticks_more terms old seen (p w.tick.new.self) w.saturating_add-now.result looked w.in_default-tick.ensures.step)
      | else-goes_by w ↦ subst (λ pool. OnlyTicks terms old (p pool)) (sym w.pool-is) looked
    ]

pub returns-in_default : goal.returns-in_default
returns-in_default g c = (g.P.Controls.pass c.loop.pool, c.loop.invariant, refl)

pub returns : goal.returns
returns g c = (g.P.Controls.pass c.loop.pool, c.loop.invariant, refl)

pub returns-in-Err : goal.returns-in-Err
returns-in-Err g c =
    let p = g.P.Controls.pass in
    let seen = c.look-seen.new.self in (
      p seen,
      ticks_look g.P.Controls.terms (p c.args.pool.now) (p c.loop.pool) (p seen) c.loop.invariant c.look-seen.ensures.looks,
      (c.in-Err.ensures.unchanged, (c.saturating_add-now.result, c.in-Err.ensures.refused)),
    )
