use Rattle.tp_text_record.proofs.DidLaws.{no_did}
use Rattle.tp_text_record.proofs.dids.task_did.Goals as goal

pub returns-in_err-task-in-Look : goal.returns-in_err-task-in-Look
returns-in_err-task-in-Look c = rw (c.from_residual.ensures, c.in-Look.is) (no_did _ _ c.in_err-task-in-Look.ensures)

pub returns-in_err-task-in-Offer : goal.returns-in_err-task-in-Offer
returns-in_err-task-in-Offer c = rw (c.from_residual-in_err-task-in-Offer.ensures, c.in-Offer.is) (no_did _ _ c.in_err-task-in-Offer.ensures)

pub returns-in_err-task-in-Second : goal.returns-in_err-task-in-Second
returns-in_err-task-in-Second c = rw (c.from_residual-in_err-task-in-Second.ensures, c.in-Second.is) (no_did _ _ c.in_err-task-in-Second.ensures)

pub returns-in_err-task-in-Grow : goal.returns-in_err-task-in-Grow
returns-in_err-task-in-Grow c = rw (c.from_residual-in_err-task-in-Grow.ensures, c.in-Grow.is) (no_did _ _ c.in_err-task-in-Grow.ensures)

pub returns-in_err-task-in-CallerEnd : goal.returns-in_err-task-in-CallerEnd
returns-in_err-task-in-CallerEnd c = rw (c.from_residual-in_err-task-in-CallerEnd.ensures, c.in-CallerEnd.is) (no_did _ _ c.in_err-task-in-CallerEnd.ensures)

pub returns-in_err-task-in-Remove : goal.returns-in_err-task-in-Remove
returns-in_err-task-in-Remove c = rw (c.from_residual-in_err-task-in-Remove.ensures, c.in-Remove.is) (no_did _ _ c.in_err-task-in-Remove.ensures)
