use Rattle.tp_messages.proofs.Reached.{line_on}
use Rattle.tp_messages.proofs.lines.line_at.Goals as goal

pub loop-next-preserved : goal.loop-next-preserved
loop-next-preserved c =
    line_on c.args.text.now c.loop-next.rest.now c.in-Some.field-0-0.now c.in-Some.behind.now c.loop-next.next c.loop-next.invariant
    c.in-Some.ensures.0 c.in-Some.ensures.1
