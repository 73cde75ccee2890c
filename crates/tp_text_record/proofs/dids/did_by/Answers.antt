use Rattle.tp_text_record.proofs.DidLaws.{no_did}
use Rattle.tp_text_record.proofs.dids.did_by.Goals as goal

pub returns-in_err-task-in-Submit : goal.returns-in_err-task-in-Submit
returns-in_err-task-in-Submit c = rw (c.from_residual.ensures, c.in-Submit.is) (no_did _ _ c.in_err-task-in-Submit.ensures)

pub returns-in_err-task-in-Verdict : goal.returns-in_err-task-in-Verdict
returns-in_err-task-in-Verdict c = rw (c.from_residual-in_err-task-in-Verdict.ensures, c.in-Verdict.is) (no_did _ _ c.in_err-task-in-Verdict.ensures)

pub returns-in_err-task-in-Cancel : goal.returns-in_err-task-in-Cancel
returns-in_err-task-in-Cancel c = rw (c.from_residual-in_err-task-in-Cancel.ensures, c.in-Cancel.is) (no_did _ _ c.in_err-task-in-Cancel.ensures)

pub returns-in_err-last_switch-in-CoreTimeout : goal.returns-in_err-last_switch-in-CoreTimeout
returns-in_err-last_switch-in-CoreTimeout c = rw (c.from_residual-in_err-last_switch-in-CoreTimeout.ensures, c.in-CoreTimeout.is) (no_did _ _ c.in_err-last_switch-in-CoreTimeout.ensures)
