use Rattle.tp_laws.proofs.Left.LeftOut as laws
use Rattle.tp_laws.proofs.leaving.left_out_stays_so.Goals as goal

pub returns-clause-next : goal.returns-clause-next
returns-clause-next c = λ c h rs w a d legal all off is. laws.next_legal c h legal rs w a d all off is

pub returns-clause-may : goal.returns-clause-may
returns-clause-may c = λ c h rs w a d legal all off is. laws.may_legal c h legal rs w a d all off is
