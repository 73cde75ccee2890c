use Rattle.tp_text_record.proofs.AnswerLaws.{no_opened}
use Rattle.tp_text_record.proofs.answers.opened.Goals as goal

pub returns-in_err-refused-in-givenup : goal.returns-in_err-refused-in-givenup
returns-in_err-refused-in-givenup c = rw c.from_residual-in_err-refused-in-givenup.ensures (no_opened _ _ _ c.in_ok-word.ensures c.in-givenup.is c.in_err-refused-in-givenup.ensures)
