use Rattle.std.proofs.Common.{ap, subst, sym, ◌∙◌}
use Rattle.tp_pool_holds.specs.Closing.{KeepsOpen}
use Rattle.tp_pool_holds.specs.declared.tasks.Payload.{Payload}
use Rattle.tp_pool_holds.specs.Reports.{Closes}
use Rattle.tp_pool.proofs.pool.PoolOf.close.Goals as goal

pub returns-in-Ok-close-clause-report : goal.returns-in-Ok-close-clause-report
returns-in-Ok-close-clause-report g c =
    subst (λ ps. Closes g.K.Reporter.told g.K.Recorder.RECEIPTS g.G.PoolNaming.config (g.K.Recorder.terms g.G.PoolNaming.config) ps c.in-Ok-close.report) c.in-Ok.ensures.passes c.in-Ok-close.ensures.report

pub returns-in-Err-close-clause-refused : goal.returns-in-Err-close-clause-refused
returns-in-Err-close-clause-refused g c =
    let terms = g.K.Recorder.terms g.G.PoolNaming.config in
    subst (λ e. KeepsOpen (Payload g.row.J.Denot) terms c.args.passes.items e) (sym c.handed_back.ensures.error)
    (subst (λ ps. KeepsOpen (Payload g.row.J.Denot) terms ps c.in-Err-close.reopened.error) c.in-Ok.ensures.passes c.in-Err-close.ensures.refused)

pub returns-in-Err-close-clause-returned : goal.returns-in-Err-close-clause-returned
returns-in-Err-close-clause-returned g c = ap (λ ps. ps.items) c.handed_back.ensures.passes ∙ c.in-Err-close.ensures.returned ∙ c.in-Ok.ensures.passes
