use Rattle.tp_text_record.proofs.DidLaws.{no_did}
use Rattle.tp_text_record.proofs.dids.slot_did.Goals as goal

pub returns-in_err-slot-in-Open : goal.returns-in_err-slot-in-Open
returns-in_err-slot-in-Open c = rw (c.from_residual.ensures, c.in-Open.is) (no_did _ _ c.in_err-slot-in-Open.ensures)

pub returns-in_err-slot-in-Fail : goal.returns-in_err-slot-in-Fail
returns-in_err-slot-in-Fail c = rw (c.from_residual-in_err-slot-in-Fail.ensures, c.in-Fail.is) (no_did _ _ c.in_err-slot-in-Fail.ensures)

pub returns-in_err-slot-in-Take : goal.returns-in_err-slot-in-Take
returns-in_err-slot-in-Take c = rw (c.from_residual-in_err-slot-in-Take.ensures, c.in-Take.is) (no_did _ _ c.in_err-slot-in-Take.ensures)

pub returns-in_err-slot-in-Begin : goal.returns-in_err-slot-in-Begin
returns-in_err-slot-in-Begin c = rw (c.from_residual-in_err-slot-in-Begin.ensures, c.in-Begin.is) (no_did _ _ c.in_err-slot-in-Begin.ensures)

pub returns-in_err-slot-in-End : goal.returns-in_err-slot-in-End
returns-in_err-slot-in-End c = rw (c.from_residual-in_err-slot-in-End.ensures, c.in-End.is) (no_did _ _ c.in_err-slot-in-End.ensures)

pub returns-in_err-slot-in-Leave : goal.returns-in_err-slot-in-Leave
returns-in_err-slot-in-Leave c = rw (c.from_residual-in_err-slot-in-Leave.ensures, c.in-Leave.is) (no_did _ _ c.in_err-slot-in-Leave.ensures)
