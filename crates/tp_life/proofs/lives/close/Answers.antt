use Rattle.std.proofs.Common.{sym, subst}
use Rattle.tp_pool_holds.specs.Closing.{KeepsOpen}
use Rattle.tp_pool_holds.specs.declared.tasks.Payload.{Payload}
use Rattle.tp_pool_holds.specs.Reports.{Closes}
use Rattle.tp_life.specs.Lived.{IsUntold}
use Rattle.tp_life.proofs.Untold.{untold}
use Rattle.tp_life.proofs.lives.close.Goals as goal

pub returns-in-Ok-clause-report : goal.returns-in-Ok-clause-report
returns-in-Ok-clause-report g c =
    let config = g.G.PoolNaming.config in
    subst (λ ps. Closes g.K.Reporter.told g.K.Recorder.RECEIPTS config (g.K.Recorder.terms config) ps c.in-Ok.report) c.push_reserved.ensures.items c.in-Ok.ensures.report

pub returns-in-Err-clause-untold : goal.returns-in-Err-clause-untold
returns-in-Err-clause-untold g c =
    let terms = g.K.Recorder.terms g.G.PoolNaming.config in
    let e = c.in-Err.fault.error in
    subst (IsUntold terms) (sym c.let_go.ensures)
    (untold {P = Payload g.row.J.Denot} terms c.args.passes.items c.args.last e c.requires.seen c.requires.legal
    (subst (λ ps. KeepsOpen (Payload g.row.J.Denot) terms ps e) c.push_reserved.ensures.items c.in-Err.ensures.refused))
