use Rattle.tp_text_record.proofs.AnswerLaws.{no_seconded}
use Rattle.tp_text_record.proofs.answers.seconded.Goals as goal

pub returns-in_err-reserved-in-stay : goal.returns-in_err-reserved-in-stay
returns-in_err-reserved-in-stay c = rw c.from_residual-in_err-reserved-in-stay.ensures (no_seconded _ _ _ c.in_ok-word.ensures c.in-stay.is c.in_err-reserved-in-stay.ensures)
