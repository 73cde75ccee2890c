use Rattle.tp_messages.proofs.Reached.{Reached}
use Rattle.tp_messages.proofs.lines.line_at.Given as goal

abbrev pub invariant-loop-next : goal.invariant-loop-next
invariant-loop-next l = Reached l.text l.rest l.next
