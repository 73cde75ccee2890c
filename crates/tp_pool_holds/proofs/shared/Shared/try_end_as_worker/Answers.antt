use Rattle.std.proofs.Common.{sym, ◌∙◌}
use Rattle.std.proofs.lemmas.Bool.{false≢true}
use Rattle.tp_pool_holds.proofs.Asked.{ended_by, barred}
use Rattle.tp_pool_holds.proofs.shared.Shared.try_end_as_worker.Goals as goal

pub returns-then-is_ok-clause-ends : goal.returns-then-is_ok-clause-ends
returns-then-is_ok-clause-ends g c =
    ended_by {J = g.row.J.Denot} g.K.Recorder.RECEIPTS (g.K.Recorder.terms g.G.PoolNaming.config) c.args.pass.now.number c.args.pass.now.front c.step.new.pass.front c.step.result c.step.ensures.makes c.step.ensures.refused
    c.step.new.pass.number c.step-then-is_ok.new.pass.front c.step-then-is_ok.result (sym c.is_ok.ensures.value ∙ c.if-is_ok.true) c.step.ensures.number
    c.step-then-is_ok.ensures.makes c.step-then-is_ok.ensures.refused

pub returns-else-is_ok-clause-ends : goal.returns-else-is_ok-clause-ends
returns-else-is_ok-clause-ends g c =
    barred {J = g.row.J.Denot} g.K.Recorder.RECEIPTS (g.K.Recorder.terms g.G.PoolNaming.config) c.args.pass.now.number c.args.pass.now.front c.step.new.pass.front c.step.result c.step.ensures.makes c.step.ensures.refused
    (λ is. false≢true (sym c.if-is_ok.false ∙ (c.is_ok.ensures.value ∙ is)))
