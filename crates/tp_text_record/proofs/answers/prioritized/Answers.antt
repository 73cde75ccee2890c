use Rattle.tp_text_record.proofs.AnswerLaws.{none_looked, none_prioritized, ranked_read}
use Rattle.tp_text_record.proofs.answers.prioritized.Goals as goal

pub returns-in_err-word : goal.returns-in_err-word
returns-in_err-word c = rw c.from_residual.ensures (none_prioritized _ c.in_err-word.ensures)

pub returns-in-prio : goal.returns-in-prio
returns-in-prio c = ranked_read _ _ _ c.ranked.result c.in_ok-word.ensures c.in-prio.is c.ranked.ensures

pub returns-in_err-looked-in_default : goal.returns-in_err-looked-in_default
returns-in_err-looked-in_default c = rw c.from_residual-in_err-looked-in_default.ensures (none_looked _ _ _ c.in_ok-word.ensures c.in_default.not-prio c.in_err-looked-in_default.ensures)
