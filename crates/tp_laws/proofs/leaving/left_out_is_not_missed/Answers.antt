use Rattle.tp_laws.proofs.Left.LeftOut as laws
use Rattle.tp_laws.proofs.leaving.left_out_is_not_missed.Goals as goal

pub returns-clause-step : goal.returns-clause-step
returns-clause-step c = λ c h rs w a legal all off. laws.step_legal c h legal rs w a all off

pub returns-clause-unknown : goal.returns-clause-unknown
returns-clause-unknown c = λ c h rs w a is. laws.unknown_left c rs _ w a is
