use Rattle.tp_text_record.proofs.DidLaws.{no_did}
use Rattle.tp_text_record.proofs.dids.ticks_did.Goals as goal

pub returns-in_err-last_ticks-in-Keep : goal.returns-in_err-last_ticks-in-Keep
returns-in_err-last_ticks-in-Keep c = rw (c.from_residual.ensures, c.in-Keep.is) (no_did _ _ c.in_err-last_ticks-in-Keep.ensures)

pub returns-in_err-last_ticks-in-Tick : goal.returns-in_err-last_ticks-in-Tick
returns-in_err-last_ticks-in-Tick c = rw (c.from_residual-in_err-last_ticks-in-Tick.ensures, c.in-Tick.is) (no_did _ _ c.in_err-last_ticks-in-Tick.ensures)
