use Rattle.tp_laws.proofs.Left.LeftOut as laws
use Rattle.tp_laws.proofs.leaving.one_more_is_left_out.Goals as goal

pub returns-clause-more : goal.returns-clause-more
returns-clause-more c = λ c h rs t legal all may. laws.may_more rs _ t all may

pub returns-clause-back : goal.returns-clause-back
returns-clause-back c = λ c h rs t legal all. laws.may_back rs _ t all
