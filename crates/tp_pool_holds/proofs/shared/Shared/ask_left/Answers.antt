use Rattle.std.proofs.Common.{◌+◌, ◌≤◌}
use Rattle.std.proofs.lemmas.Result.{IfErr-weaker}
use Rattle.tp_pool_holds.proofs.Adding.{added, left_room, looks, refusals}
use Rattle.tp_pool_holds.proofs.Left.{left_at, shown_after}
use Rattle.tp_pool_holds.proofs.Certain.{certain}
use Rattle.tp_pool_holds.proofs.Returned.{knows}
use Rattle.tp_pool_holds.proofs.shared.Shared.ask_left.Goals as goal

pub returns-clause-remains : goal.returns-clause-remains
returns-clause-remains g c =
    let hold = c.step-answer in
    left_at {J = g.row.J.Denot} (g.K.Recorder.terms g.G.PoolNaming.config) c.deref.result.now hold.new.self hold.new.pass.front c.left_in-remains.result c.deref.ensures
    (shown_after {J = g.row.J.Denot} g.K.Recorder.RECEIPTS (g.S.Step.ask c.args.step) c.deref_mut.result.now hold.new.self hold.new.pass.front hold.result hold.ensures.front hold.ensures.denies) c.left_in-remains.ensures

pub returns-clause-known : goal.returns-clause-known
returns-clause-known g c =
    let hold = c.step-answer in
    knows {J = g.row.J.Denot} g.K.Recorder.RECEIPTS c.deref_mut.result.now hold.new.self c.args.pass.now hold.new.pass (g.S.Step.ask c.args.step) (λ x. g.S.Step.did c.args.step x) (λ x. g.S.Step.moves c.args.step tt x)
    (λ x. g.S.Step.says c.args.step x (g.K.Recorder.terms g.G.PoolNaming.config)) hold.result hold.ensures.holds hold.ensures.says hold.ensures.front

pub returns-clause-refused : goal.returns-clause-refused
returns-clause-refused g c =
    let hold = c.step-answer in
    IfErr-weaker hold.result _ _
    (λ e is. λ none. certain g.K.Recorder.RECEIPTS (g.K.Recorder.terms g.G.PoolNaming.config) hold.new.pass (g.S.Step.ask c.args.step) e (is none))
    (refusals {J = g.row.J.Denot} (g.K.Recorder.terms g.G.PoolNaming.config) g.K.Recorder.RECEIPTS c.deref_mut.result.now hold.new.self hold.ensures.stands hold.new.pass (g.S.Step.ask c.args.step) hold.result hold.ensures.denies
    hold.ensures.front.1 hold.ensures.released)

pub returns-clause-step : goal.returns-clause-step
returns-clause-step g c =
    let hold = c.step-answer in
    added (g.K.Recorder.terms g.G.PoolNaming.config) c.args.pass.now hold.new.pass (g.S.Step.ask c.args.step) (c.args.pass.now.room ≤ hold.new.pass.room + 1) (λ x. g.S.Step.did c.args.step x) (λ x. g.S.Step.moves c.args.step tt x) hold.result
    hold.ensures.makes hold.ensures.paid

pub returns-clause-left : goal.returns-clause-left
returns-clause-left g c =
    let hold = c.step-answer in
    left_room (c.args.pass.now.room ≤ hold.new.pass.room + 1) _ hold.result hold.ensures.paid

pub returns-clause-unchanged : goal.returns-clause-unchanged
returns-clause-unchanged g c =
    let hold = c.step-answer in
    looks (g.K.Recorder.terms g.G.PoolNaming.config) c.args.pass.now hold.new.pass c.deref_mut.result.now.book.history hold.result hold.ensures.shown hold.ensures.goes_on hold.ensures.front.1 hold.ensures.legal
