use Rattle.std.proofs.Common.{sym, subst}
use Rattle.tp_pool.specs.Submissions.{AddsJob}
use Rattle.tp_pool.proofs.Submissions.{admits_job}
use Rattle.tp_life.specs.declared.tasks.TheConstants.{VOID}
use Rattle.tp_life.proofs.calls.Calls.ticket.Goals as goal

pub returns-in-Ok-clause-submitted : goal.returns-in-Ok-clause-submitted
returns-in-Ok-clause-submitted g c =
    let terms = g.Self.Controls.terms in
    let task = c.args.task in
    let kind = c.args.kind in
    let urgency = g.Self.Task.Task.urgency task in
    let old = g.Self.Controls.pass c.args.self.now in
    let new = g.Self.Controls.pass c.enter.new.self in
    subst (λ t. AddsJob terms kind task VOID urgency t old new) (sym c.task_of.ensures)
    (admits_job terms kind task VOID urgency c.in-Ok.admitted old new c.in-Ok.ensures.admitted)
