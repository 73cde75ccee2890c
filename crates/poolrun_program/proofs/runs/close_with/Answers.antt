use Rattle.std.proofs.Common.{◌≡◌, true, not, ap, subst, ◌∙◌}
use Rattle.std.specs.Result.{is_ok}
use Rattle.tp_pool_holds.specs.Reports.{Closes}
use Rattle.poolrun_program.proofs.Ends.{one_pass}
use Rattle.poolrun_program.proofs.runs.close_with.Goals as goal

pub returns-in-Ok-close-clause-report : goal.returns-in-Ok-close-clause-report
returns-in-Ok-close-clause-report g c =
    let ok : is_ok c.push.result ≡ true = c.is_err.ensures.negation ∙ ap not c.if-is_err.false in
    let passes = one_pass c.args.passes.items c.push.new.self.items c.args.pass c.requires.alone (rw ok at c.push.ensures.items) in
    (c.in-Ok.is, subst (λ ps. Closes g.K.Reporter.told g.K.Recorder.RECEIPTS g.G.PoolNaming.config (g.K.Recorder.terms g.G.PoolNaming.config) ps c.in-Ok-close.report) passes c.in-Ok-close.ensures.report)
