use Rattle.std.proofs.Common.{◌≡◌, ◌∷◌, [], reverse, refl, subst, Ok, true}
use Rattle.std.specs.Prelude.{IfOk, IsTrue}
use Rattle.std.proofs.lemmas.Result.{IfOk-weaker}
use Rattle.tp_pool_holds.specs.Reports.{Reports}
use Rattle.tp_journal.proofs.Fronts.{through_later}
use Rattle.tp_journal.proofs.Reports.{front_of_report}
use Rattle.poolrun_program.specs.Runs.{AddsEnd}
use Rattle.poolrun_program.proofs.Ends.{ends_looks}
use Rattle.poolrun_program.proofs.recorded.closed.Goals as goal

pub returns-clause-report : goal.returns-clause-report
returns-clause-report g c =
    let config = g.G.PoolNaming.config in
    IfOk-weaker c.answered.result _ _
    (λ r (is : c.close_with.result ≡ Ok (true, r)).
    let closed = subst (λ x. IfOk x (λ y. (c.end-over.result ≡ Ok y.0) × Reports config (c.stop_in-stopped.new.pass ∷ []) y.1)) is c.close_with.ensures.report in (
      c.stop_in-stopped.new.pass,
      ends_looks config c.args.pass c.end-over.new.pass c.stop_in-stopped.new.pass
          (subst (λ x. IfOk x (λ by_itself. IsTrue by_itself → AddsEnd config c.args.pass c.end-over.new.pass)) closed.0 c.end-over.ensures.ends refl)
          c.stop_in-stopped.ensures.looks,
      closed.1,
    ))
    c.answered.ensures.report

pub returns-clause-front : goal.returns-clause-front
returns-clause-front g c =
    let config = g.G.PoolNaming.config in
    let contents = g.V.Write.contents in
    let known = c.stop_in-stopped.new.pass.front in
    IfOk-weaker c.answered.result _ _
    (λ r (is : c.close_with.result ≡ Ok (true, r)).
    let closed = subst (λ x. IfOk x (λ y. (c.end-over.result ≡ Ok y.0) × Reports config (c.stop_in-stopped.new.pass ∷ []) y.1)) is c.close_with.ensures.report in
    through_later contents (contents c.args.started.thread.promise.writer.value) config c.stop_in-stopped.result known (reverse r.entries.items)
    (front_of_report config [] c.stop_in-stopped.new.pass r closed.1) c.stop_in-stopped.ensures.front)
    c.answered.ensures.report
