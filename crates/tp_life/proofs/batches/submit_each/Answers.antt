use Rattle.std.proofs.Common.{◌≡◌, [], ◌∷◌, ◌++◌, length, map, append_assoc, sym, subst, ap, ◌∙◌, arith, rules}
use Rattle.std.proofs.lemmas.List.{length_push, map-append}
use Rattle.tp_pool.specs.Submissions.{Submits}
use Rattle.tp_pool.specs.Turns.{ThroughBoth}
use Rattle.tp_pool.proofs.Turned.{all_passed, both_more}
use Rattle.tp_life.specs.declared.tasks.TheConstants.{VOID}
use Rattle.tp_life.specs.Futures.{submitted_as}
use Rattle.tp_life.proofs.batches.submit_each.Goals as goal

pub loop-task-preserved : goal.loop-task-preserved
loop-task-preserved g c =
    let old = g.P.Controls.pass c.args.pool.now in
    let new = g.P.Controls.pass c.submitted.new.pool in
    let task = c.in-Some.task in
    let tasks = c.loop-task.yielded in
    let tickets = c.loop-task.tickets.items in
    let ticket = c.submitted.result in
    let more = c.push_reserved.ensures.items in (
      tt,
      tt,
      omega (arith, ap length more, length_push tickets ticket, length_push tasks task, c.loop-task.invariant.2),
      search rules,
      append_assoc tasks (task ∷ []) c.next.new.self.rest.items ∙ ap (λ xs. tasks ++ xs) (sym c.in-Some.ensures.steps.0) ∙ c.loop-task.invariant.4,
      subst (λ ks. ThroughBoth (λ task r. Submits g.P.Controls.keeps g.P.Controls.terms task VOID (g.W.Task.urgency task) r) (tasks ++ task ∷ []) ks old new) (sym (ap (map (submitted_as (λ k. k.task))) more ∙ map-append (submitted_as (λ k. k.task)) tickets (ticket ∷ [])))
          (both_more (λ task r. Submits g.P.Controls.keeps g.P.Controls.terms task VOID (g.W.Task.urgency task) r) tasks (map (submitted_as (λ k. k.task)) tickets) task (submitted_as (λ k. k.task) ticket) old (g.P.Controls.pass c.loop-task.pool) new c.loop-task.invariant.5 c.submitted.ensures),
    )

pub returns-clause-submitted : goal.returns-clause-submitted
returns-clause-submitted g c =
    let rest = c.loop-task.task-iterator.rest in
    let gives : c.into_iter-task-iterator.result.rest.items ≡ c.args.tasks.items = search rules in
    let all = all_passed c.loop-task.yielded rest.items c.args.tasks.items (c.loop-task.invariant.4 ∙ gives) (omega (arith, c.in-None.ensures.steps.0, rest.ok.0)) in
    subst (λ tasks. ThroughBoth (λ task r. Submits g.P.Controls.keeps g.P.Controls.terms task VOID (g.W.Task.urgency task) r) tasks (map (submitted_as (λ k. k.task)) c.loop-task.tickets.items) (g.P.Controls.pass c.args.pool.now) (g.P.Controls.pass c.loop-task.pool)) all c.loop-task.invariant.5
