use Rattle.tp_rules.proofs.Histories.{largest_more}
use Rattle.tp_rules.proofs.slots.largest.Goals as goal

pub loop-i-preserved : goal.loop-i-preserved
loop-i-preserved c =
    let more = largest_more c.args.entries.now c.loop-i.i c.loop-i-test.true in
    let number = c.in_ok-live.ensures.number in
    cc (c.loop-i.invariant, c.max-largest.ensures)
