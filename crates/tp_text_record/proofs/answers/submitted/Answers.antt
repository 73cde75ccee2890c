use Rattle.tp_text_record.proofs.AnswerLaws.{no_group}
use Rattle.tp_text_record.proofs.answers.submitted.Goals as goal

pub returns-in_err-group-in-group : goal.returns-in_err-group-in-group
returns-in_err-group-in-group c = rw c.from_residual-in_err-group-in-group.ensures (no_group _ _ _ c.in_ok-word.ensures c.in-group.is c.in_err-group-in-group.ensures)
