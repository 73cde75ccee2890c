use Rattle.std.proofs.Common.{reverse}
use Rattle.tp_record.specs.Fields as fields
use Rattle.tp_rules.proofs.Tables.{map-count_more}
use Rattle.tp_rules.proofs.tasks.tasks.Goals as goal

pub loop-t-preserved : goal.loop-t-preserved
loop-t-preserved c =
    let more = map-count_more (fields.task_row (reverse c.args.entries.now)) c.loop-t.t in
    let pushed = c.in_ok-push.ensures.items in
    cc (c.loop-t.invariant, c.task_row.ensures.row)
