use Rattle.tp_laws.proofs.Left.Marks as marks
use Rattle.tp_laws.proofs.leaving.blank_rows_tell_as_much.Goals as goal

pub returns : goal.returns
returns c = λ c h rs w a legal may. marks.step_marked c h rs w a legal may
