use Rattle.tp_scenario.proofs.LineLaws.{no_line}
use Rattle.tp_scenario.proofs.reading.with_arguments.Goals as goal

pub returns-in_err-kind-in-Submit : goal.returns-in_err-kind-in-Submit
returns-in_err-kind-in-Submit c = rw (c.from_residual.ensures, c.in-Submit.is) (no_line _ _ c.in_err-kind-in-Submit.ensures)

pub returns-in_err-task-in-Verdict : goal.returns-in_err-task-in-Verdict
returns-in_err-task-in-Verdict c = rw (c.from_residual-in_err-task-in-Verdict.ensures, c.in-Verdict.is) (no_line _ _ c.in_err-task-in-Verdict.ensures)

pub returns-in_err-task-in-Cancel : goal.returns-in_err-task-in-Cancel
returns-in_err-task-in-Cancel c = rw (c.from_residual-in_err-task-in-Cancel.ensures, c.in-Cancel.is) (no_line _ _ c.in_err-task-in-Cancel.ensures)
