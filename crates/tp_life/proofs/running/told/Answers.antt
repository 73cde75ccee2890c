use Rattle.std.proofs.Common.{◌≡◌, [], ◌∷◌, ◌++◌, append_assoc, ap, ◌∙◌, sym, subst, arith, rules}
use Rattle.tp_pool.proofs.Turned.{all_passed}
use Rattle.tp_life.specs.Ran.{IsTold, Pairwise}
use Rattle.tp_life.proofs.Told.{pairs_more}
use Rattle.tp_life.proofs.running.told.Goals as goal

pub loop-answer-preserved : goal.loop-answer-preserved
loop-answer-preserved g c =
    let tells = IsTold g.W.Task.gives in
    let answer = c.in-Some.answer in
    let answers = c.loop-answer.yielded in (
      tt,
      tt,
      append_assoc answers (answer ∷ []) c.next.new.self.rest.items ∙ ap (λ xs. answers ++ xs) (sym c.in-Some.ensures.steps.0) ∙ c.loop-answer.invariant.2,
      subst (λ vs. Pairwise tells (answers ++ answer ∷ []) vs) (sym c.in_ok-push.ensures.items)
          (pairs_more tells answers c.loop-answer.values.items answer c.value.result c.loop-answer.invariant.3 c.value.ensures),
    )

pub returns-clause-told : goal.returns-clause-told
returns-clause-told g c =
    let rest = c.loop-answer.answer-iterator.rest in
    let gives : c.into_iter-answer-iterator.result.rest.items ≡ c.args.answers.items = search rules in
    let all = all_passed c.loop-answer.yielded rest.items c.args.answers.items (c.loop-answer.invariant.2 ∙ gives) (omega (arith, c.in-None.ensures.steps.0, rest.ok.0)) in
    subst (λ xs. Pairwise (IsTold g.W.Task.gives) xs c.loop-answer.values.items) all c.loop-answer.invariant.3
