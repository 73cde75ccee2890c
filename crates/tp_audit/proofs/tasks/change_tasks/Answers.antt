use Rattle.std.proofs.Common.{◌≡◌, cond, [], ◌∷◌, ◌++◌, length, sym, ap, arith, ◌∙◌}
use Rattle.std.specs.Prelude.{vec_len}
use Rattle.tp_record.specs.Lists.{change_each}
use Rattle.tp_record.specs.State.{row_after, no_row}
use Rattle.tp_audit.proofs.Entries.{tasks_two}
use Rattle.tp_audit.proofs.tasks.change_tasks.Goals as goal

pub returns-then-is_submit : goal.returns-then-is_submit
returns-then-is_submit c =
    let d = c.args.did in
    let rows = c.args.tasks.now.items in
    let counted : vec_len c.args.tasks.now ≡ length rows = omega (arith, c.args.tasks.now.ok.0) in
    let changed = tasks_two d rows c.change_task.new.tasks.items c.change_task-2.new.tasks.items c.named_task.result c.dropped_task.result
    c.requires.narrow c.requires.apart c.named_task.ensures c.dropped_task.ensures c.change_task.ensures.row c.change_task-2.ensures.row in
    let row : c.row_after.result ≡ row_after d (length rows) no_row = c.row_after.ensures.after ∙ ap (λ n. row_after d n no_row) (c.len-count.ensures ∙ counted) in
    c.push_reserved.ensures.items
    ∙ ap (λ xs. xs ++ c.row_after.result ∷ []) changed
    ∙ ap (λ r. change_each (row_after d) 0 rows ++ r ∷ []) row
    ∙ sym (ap (λ b. cond b (change_each (row_after d) 0 rows ++ row_after d (length rows) no_row ∷ []) (change_each (row_after d) 0 rows)) (sym c.is_submit.ensures ∙ c.if-is_submit.true))

pub returns-else-is_submit : goal.returns-else-is_submit
returns-else-is_submit c =
    let d = c.args.did in
    let rows = c.args.tasks.now.items in
    tasks_two d rows c.change_task.new.tasks.items c.change_task-2.new.tasks.items c.named_task.result c.dropped_task.result
    c.requires.narrow c.requires.apart c.named_task.ensures c.dropped_task.ensures c.change_task.ensures.row c.change_task-2.ensures.row
    ∙ sym (ap (λ b. cond b (change_each (row_after d) 0 rows ++ row_after d (length rows) no_row ∷ []) (change_each (row_after d) 0 rows)) (sym c.is_submit.ensures ∙ c.if-is_submit.false))
