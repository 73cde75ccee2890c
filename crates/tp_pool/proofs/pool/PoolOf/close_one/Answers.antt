use Rattle.std.proofs.Common.{◌≡◌, [], ◌∷◌, length, inr, ap, sym, ◌∙◌, subst}
use Rattle.std.specs.Prelude.{get_or}
use Rattle.tp_pool_holds.specs.Closing.{KeepsOpen}
use Rattle.tp_pool_holds.specs.declared.tasks.Payload.{Payload}
use Rattle.tp_pool_holds.specs.Reports.{Closes}
use Rattle.tp_pool.proofs.pool.PoolOf.close_one.Goals as goal

pub of_one-requires : goal.of_one-requires
of_one-requires g c = record { one = ap length (c.in-Err-close.ensures.returned ∙ c.in-Ok.ensures.one) }

pub returns-in-Ok-close-clause-report : goal.returns-in-Ok-close-clause-report
returns-in-Ok-close-clause-report g c = subst (λ ps. Closes g.K.Reporter.told g.K.Recorder.RECEIPTS g.G.PoolNaming.config (g.K.Recorder.terms g.G.PoolNaming.config) ps c.in-Ok-close.report) c.in-Ok.ensures.one c.in-Ok-close.ensures.report

pub returns-in-Err-close-clause-refused : goal.returns-in-Err-close-clause-refused
returns-in-Err-close-clause-refused g c =
    let config = g.K.Recorder.terms g.G.PoolNaming.config in
    inr (subst (λ e. KeepsOpen (Payload g.row.J.Denot) config (c.args.pass ∷ []) e) (sym c.of_one.ensures.error)
    (subst (λ ps. KeepsOpen (Payload g.row.J.Denot) config ps c.in-Err-close.fault.error) c.in-Ok.ensures.one c.in-Err-close.ensures.refused))

pub returns-in-Err-close-clause-returned : goal.returns-in-Err-close-clause-returned
returns-in-Err-close-clause-returned g c =
    ap (λ ps. get_or ps 0 c.args.pass) (sym c.of_one.ensures.pass ∙ c.in-Err-close.ensures.returned ∙ c.in-Ok.ensures.one)
