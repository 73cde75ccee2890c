use Rattle.std.proofs.Common.{◌≡◌, ◌∷◌, [], refl, subst, Ok, true}
use Rattle.std.specs.Prelude.{IfOk, IsTrue}
use Rattle.std.proofs.lemmas.Result.{IfOk-weaker}
use Rattle.tp_pool_holds.specs.Reports.{Closes}
use Rattle.poolrun_program.specs.Runs.{AddsEnd}
use Rattle.poolrun_program.proofs.runs.closed.Goals as goal

pub returns-clause-report : goal.returns-clause-report
returns-clause-report g c =
    let terms = g.K.Recorder.terms g.G.PoolNaming.config in
    let told = Closes g.K.Reporter.told g.K.Recorder.RECEIPTS g.G.PoolNaming.config terms in
    IfOk-weaker c.answered.result _ _
    (λ r (is : c.close_with.result ≡ Ok (true, r)).
    let closed = subst (λ x. IfOk x (λ y. (c.end-ended.result ≡ Ok y.0) × told (c.end-ended.new.pass ∷ []) y.1)) is c.close_with.ensures.report in
    (c.end-ended.new.pass, subst (λ x. IfOk x (λ by_itself. IsTrue by_itself → AddsEnd terms c.args.pass c.end-ended.new.pass)) closed.0 c.end-ended.ensures.ends refl, closed.1))
    c.answered.ensures.report
