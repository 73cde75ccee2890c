use Rattle.std.proofs.Common.{arith}
use Rattle.tp_record.specs.State.{row_after, no_row}
use Rattle.tp_rules.proofs.Tables.{change_each_more}
use Rattle.tp_rules.proofs.next.tasks_after.Goals as goal

pub loop-t-preserved : goal.loop-t-preserved
loop-t-preserved c =
    let rows = c.args.state.now.tasks.items in
    let more = change_each_more (row_after c.args.did) rows c.loop-t.t no_row (omega (arith, c.args.state.now.tasks.ok.0)) in
    let pushed = c.in_ok-push.ensures.items in
    cc (c.loop-t.invariant, c.task_at.ensures, c.row_after.ensures.after)
