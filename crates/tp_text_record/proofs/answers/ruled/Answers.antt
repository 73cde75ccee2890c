use Rattle.tp_text_record.proofs.AnswerLaws.{no_ruled}
use Rattle.tp_text_record.proofs.answers.ruled.Goals as goal

pub returns-in_err-dropped-in-retry : goal.returns-in_err-dropped-in-retry
returns-in_err-dropped-in-retry c = rw c.from_residual-in_err-dropped-in-retry.ensures (no_ruled _ _ _ c.in_ok-word.ensures c.in-retry.is c.in_err-dropped-in-retry.ensures)
