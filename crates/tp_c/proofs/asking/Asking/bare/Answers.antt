use Rattle.tp_c.proofs.Unasked.{if_none}
use Rattle.tp_c.proofs.asking.Asking.bare.Goals as goal

pub returns-in_err-lone-clause-none : goal.returns-in_err-lone-clause-none
returns-in_err-lone-clause-none c = if_none c.from_residual.result (c.in_err-lone.ensures.none 0)
