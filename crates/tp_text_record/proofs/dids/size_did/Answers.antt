use Rattle.tp_text_record.proofs.DidLaws.{no_did}
use Rattle.tp_text_record.proofs.dids.size_did.Goals as goal

pub returns-in_err-group-in-TakeDone : goal.returns-in_err-group-in-TakeDone
returns-in_err-group-in-TakeDone c = rw (c.from_residual.ensures, c.in-TakeDone.is) (no_did _ _ c.in_err-group-in-TakeDone.ensures)

pub returns-in_err-core-in-Core : goal.returns-in_err-core-in-Core
returns-in_err-core-in-Core c = rw (c.from_residual-in_err-core-in-Core.ensures, c.in-Core.is) (no_did _ _ c.in_err-core-in-Core.ensures)

pub returns-in_err-last_number-in-Maximum : goal.returns-in_err-last_number-in-Maximum
returns-in_err-last_number-in-Maximum c = rw (c.from_residual-in_err-last_number-in-Maximum.ensures, c.in-Maximum.is) (no_did _ _ c.in_err-last_number-in-Maximum.ensures)
