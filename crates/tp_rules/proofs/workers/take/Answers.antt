use Rattle.std.proofs.Common.{◌≡◌, rules, ap, ◌∙◌}
use mathlib.Core.Path.{ap₂}
use Rattle.tp_record.specs.Step.{of_row, take_answer, take_next}
use Rattle.tp_rules.proofs.Answered.{says_same}
use Rattle.tp_rules.proofs.workers.take.Goals as goal

pub returns-in-Working-Some : goal.returns-in-Working-Some
returns-in-Working-Some g c =
    let v = c.args.v in
    says_same (g.S.Readings.shows c.args.state.now) _ _ _ c.first_task.result
    (λ s sh. ap (λ o. of_row o (λ r. take_answer s v r.stage r.task)) (c.in_ok-row.ensures.row s sh)
    ∙ ap₂ (take_answer s v) c.in-Working-Some.is-0 c.in-Working-Some.is-1)
    c.first_task.ensures

pub returns-in-Working-None : goal.returns-in-Working-None
returns-in-Working-None g c =
    let v = c.args.v in
    let row = c.in_ok-row.row in
    says_same (g.S.Readings.shows c.args.state.now) _ _ _ c.next_task.result
    (λ s sh. ap (λ o. of_row o (λ r. take_answer s v r.stage r.task)) (c.in_ok-row.ensures.row s sh)
    ∙ (let e : take_answer s v row.stage row.task ≡ take_next s v row.stage = search rules in e))
    c.next_task.ensures
