use Rattle.tp_text_record.proofs.AnswerLaws.{no_priority}
use Rattle.tp_text_record.proofs.answers.priority_on.Goals as goal

pub returns-then-priority-eq0 : goal.returns-then-priority-eq0
returns-then-priority-eq0 c = no_priority _ _ c.in_ok-priority.priority c.in_ok-priority.ensures.1 c.in_ok-priority.ensures.0 c.if-priority-eq0.true
