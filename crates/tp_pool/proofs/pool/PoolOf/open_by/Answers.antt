use Rattle.std.proofs.Common.{◌+◌, ◌≤◌}
use Rattle.std.proofs.lemmas.Result.{IfErr-weaker}
use Rattle.tp_machine_state.specs.Payloads.{Keeps}
use Rattle.tp_pool_holds.specs.Passes.{opening}
use Rattle.tp_pool_holds.proofs.Adding.{added}
use Rattle.tp_pool_holds.proofs.Handed.{looked, opening_refused}
use Rattle.tp_pool.proofs.pool.PoolOf.open_by.Goals as goal

pub returns-clause-step : goal.returns-clause-step
returns-clause-step g c =
    let old = c.args.pass.now in
    let hold = c.hand_over-opened in
    let new = hold.new.pass in
    added {J = g.row.J.Denot} (g.K.Recorder.terms g.G.PoolNaming.config) old new (opening c.args.w c.args.staffed) (old.room ≤ new.room + 1) (λ d. d) (λ _. Keeps) hold.result.0 hold.ensures.makes hold.ensures.paid

pub returns-clause-refused : goal.returns-clause-refused
returns-clause-refused g c =
    let hold = c.hand_over-opened in
    IfErr-weaker hold.result.0 _ _
    (λ e is. opening_refused {J = g.row.J.Denot} g.K.Recorder.RECEIPTS (g.K.Recorder.terms g.G.PoolNaming.config) c.args.pass.now.front c.args.w c.args.staffed e hold.new.pass.front is) hold.ensures.refused

pub returns-clause-unchanged : goal.returns-clause-unchanged
returns-clause-unchanged g c =
    let hold = c.hand_over-opened in
    looked g.row.J.Denot g.K.Recorder.RECEIPTS (g.K.Recorder.terms g.G.PoolNaming.config) c.args.pass.now hold.new.pass (opening c.args.w c.args.staffed) hold.result.0 hold.ensures.refused hold.ensures.shown
