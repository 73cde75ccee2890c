use Rattle.std.proofs.Common.{ap, arith, length, reverse}
use Rattle.tp_record.specs.Fields as fields
use Rattle.tp_rules.proofs.Tables.{map-count_more, length-map_count_from}
use Rattle.tp_rules.proofs.slots.slots.Goals as goal

pub loop-w-preserved : goal.loop-w-preserved
loop-w-preserved c =
    let more = map-count_more (fields.slot_row (reverse c.args.entries.now)) c.loop-w.w in
    let pushed = c.in_ok-push.ensures.items in
    cc (c.loop-w.invariant, c.slot_row.ensures)

pub returns-clause-bound : goal.returns-clause-bound
returns-clause-bound c =
    let long = length-map_count_from (fields.slot_row (reverse c.args.entries.now)) 0 c.loop-w.w in
    omega (arith, c.loop-w.slots.ok.0, ap length c.loop-w.invariant)
