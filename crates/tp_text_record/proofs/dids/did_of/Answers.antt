use Rattle.tp_text_record.proofs.DidLaws.{did_read, no_command}
use Rattle.tp_text_record.proofs.dids.did_of.Goals as goal

pub returns-in_err-command : goal.returns-in_err-command
returns-in_err-command c = rw c.from_residual-in_err-command.ensures (no_command _ _ _ c.in_ok-word.ensures c.in_err-command.ensures)

pub returns : goal.returns
returns c = did_read _ _ _ c.in_ok-command.field-0 c.did_by.result c.in_ok-word.ensures c.in_ok-command.ensures.1 c.did_by.ensures
