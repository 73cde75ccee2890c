use Rattle.tp_glance.proofs.Fronts.{IsFrontOf_refl, IsFrontOf_trans}
use Rattle.tp_pool_holds.proofs.Receipts.{later_refl}
use Rattle.tp_pool.proofs.Forgotten.{looks_on}
use Rattle.tp_pool.proofs.abandoned.PoolOf+G+J+E+Tally.forget_abandoned.Goals as goal

pub loop-init : goal.loop-init
loop-init g c = (later_refl c.args.pass.now, IsFrontOf_refl c.args.pass.now.released)

pub loop-preserved : goal.loop-preserved
loop-preserved g c =
    let told = c.forget_first.ensures in
    (looks_on c.args.pass.now c.loop.pass c.forget_first.new.pass c.loop.invariant.0 (told.shown, told.goes_on), IsFrontOf_trans c.loop.invariant.1 told.knew)
