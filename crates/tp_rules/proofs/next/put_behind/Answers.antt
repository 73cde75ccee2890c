use Rattle.std.proofs.Common.{◌∙◌, ℕ, List, ◌∷◌, ◌++◌, ap, arith}
use Rattle.std.specs.Prelude.{filter, nat_le, nat_lt}
use Rattle.std.proofs.lemmas.List.{take_all}
use Rattle.tp_record.specs.declared.rows.TaskRow.{TaskRow}
use Rattle.tp_record.specs.State.{row_at}
use Rattle.tp_rules.proofs.next.put_behind.Goals as goal

pub returns-clause-tasks : goal.returns-clause-tasks
returns-clause-tasks c =
    let number : ℕ → ℕ = λ u. (row_at c.args.state.now.tasks.items u).priority in
    let line = c.args.line.now in
    let parts : ℕ → List ℕ → List ℕ = λ n ys. filter (λ u. nat_le (number u) n) line ++ c.args.t ∷ filter (λ u. nat_lt n (number u)) ys in
    c.loop-u-2.invariant
    ∙ ap (parts c.task_at-number.result.priority) (take_all c.loop-u-2.u-index line (omega (arith, c.loop-u-2-test.false)))
    ∙ ap (λ (r : TaskRow). parts r.priority line) c.task_at-number.ensures
