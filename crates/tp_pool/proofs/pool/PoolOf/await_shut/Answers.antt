use Rattle.std.proofs.lemmas.Result.{IfErr-weaker}
use Rattle.tp_pool.proofs.Endless.{over, over_legal, torn}
use Rattle.tp_pool.proofs.pool.PoolOf.await_shut.Goals as goal

pub returns-clause-seen : goal.returns-clause-seen
returns-clause-seen g c =
    let config = (g.K.Recorder.terms g.G.PoolNaming.config) in
    let wait = c.await_end-ended in
    over config c.args.pass.now wait.new.pass wait.result wait.ensures.seen (torn config c.args.pass.now wait.new.pass wait.result wait.ensures.late wait.ensures.refused)

pub returns-clause-legal : goal.returns-clause-legal
returns-clause-legal g c =
    let config = (g.K.Recorder.terms g.G.PoolNaming.config) in
    let wait = c.await_end-ended in
    over_legal config c.args.pass.now wait.new.pass wait.result wait.ensures.steps (torn config c.args.pass.now wait.new.pass wait.result wait.ensures.late wait.ensures.refused)

pub returns-clause-torn : goal.returns-clause-torn
returns-clause-torn g c =
    let wait = c.await_end-ended in
    IfErr-weaker wait.result _ _ (λ e is. is.0) (torn (g.K.Recorder.terms g.G.PoolNaming.config) c.args.pass.now wait.new.pass wait.result wait.ensures.late wait.ensures.refused)
