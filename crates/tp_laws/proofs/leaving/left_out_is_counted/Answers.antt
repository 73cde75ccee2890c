use Rattle.tp_laws.proofs.Left.LeftOut as laws
use Rattle.tp_laws.proofs.leaving.left_out_is_counted.Goals as goal

pub returns-clause-counts : goal.returns-clause-counts
returns-clause-counts c = λ c h rs legal all. laws.counts_legal c h legal rs all

pub returns-clause-due : goal.returns-clause-due
returns-clause-due c = λ c h rs legal all. laws.due_legal c h legal rs all
