use Rattle.tp_text.proofs.RunLaws.{IsFront-run_lines, IsFront-fate_lines, IsFront-state_line}
use Rattle.tp_text.proofs.runs.broken_off_is_front.Goals as goal

pub returns-clause-answers : goal.returns-clause-answers
returns-clause-answers c = IsFront-run_lines

pub returns-clause-fates : goal.returns-clause-fates
returns-clause-fates c = IsFront-fate_lines

pub returns-clause-state : goal.returns-clause-state
returns-clause-state c = IsFront-state_line
