use Rattle.std.proofs.Common.{◌≡◌, [], ◌∷◌, ◌++◌, append_assoc, ap, ◌∙◌, sym, arith, rules}
use Rattle.tp_pool.proofs.Turned.{all_passed}
use Rattle.tp_life.proofs.running.held.Goals as goal

pub loop-task-preserved : goal.loop-task-preserved
loop-task-preserved g c =
    let task = c.in-Some.task in
    let tasks = c.loop-task.yielded in (
      tt,
      tt,
      append_assoc tasks (task ∷ []) c.next.new.self.rest.items ∙ ap (λ xs. tasks ++ xs) (sym c.in-Some.ensures.steps.0) ∙ c.loop-task.invariant.2,
      c.in_ok-push-in-Ok.ensures.items ∙ ap (λ x. c.loop-task.jobs.items ++ x ∷ []) c.in-Ok.ensures.held ∙ ap (λ xs. xs ++ task ∷ []) c.loop-task.invariant.3,
    )

pub returns-clause-held : goal.returns-clause-held
returns-clause-held g c =
    let rest = c.loop-task.task-iterator.rest in
    let gives : c.into_iter-task-iterator.result.rest.items ≡ c.args.tasks.items = search rules in
    let all = all_passed c.loop-task.yielded rest.items c.args.tasks.items (c.loop-task.invariant.2 ∙ gives) (omega (arith, c.in-None.ensures.steps.0, rest.ok.0)) in
    c.loop-task.invariant.3 ∙ all
