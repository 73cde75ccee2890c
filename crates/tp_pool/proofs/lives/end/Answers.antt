use Rattle.std.proofs.Common.{ap, ◌∙◌, subst, sym}
use Rattle.tp_record.specs.Fields.{rank}
use Rattle.tp_pool_holds.specs.Closing.{KeepsOpen}
use Rattle.tp_pool_holds.specs.declared.tasks.Payload.{Payload}
use Rattle.tp_pool_holds.specs.Reports.{Closes}
use Rattle.tp_pool.specs.Lives.{IsCut}
use Rattle.tp_pool.proofs.Cuts.{cut}
use Rattle.tp_pool.proofs.lives.end.Goals as goal

pub returns-in-Ok-close-clause-report : goal.returns-in-Ok-close-clause-report
returns-in-Ok-close-clause-report g c =
    (c.sight.new.pass, subst (λ ps. Closes g.K.Reporter.told g.K.Recorder.RECEIPTS g.G.PoolNaming.config (g.K.Recorder.terms g.G.PoolNaming.config) ps c.in-Ok-close.report) c.in-Ok.ensures.both c.in-Ok-close.ensures.report)

pub returns-in-Err-close-clause-cut : goal.returns-in-Err-close-clause-cut
returns-in-Err-close-clause-cut g c =
    let terms = g.K.Recorder.terms g.G.PoolNaming.config in
    let e = c.in-Err-close.fault.error in
    subst IsCut (sym c.let_go-in-Err-close.ensures)
    (cut {P = Payload g.row.J.Denot} terms c.args.pass c.sight.new.pass e (ap (λ p. rank p.front) c.sight.ensures.same ∙ c.in_default.ensures.ended)
    (subst (λ ps. KeepsOpen (Payload g.row.J.Denot) terms ps e) c.in-Ok.ensures.both c.in-Err-close.ensures.refused))
