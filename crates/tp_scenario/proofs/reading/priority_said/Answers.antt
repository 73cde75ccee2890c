use Rattle.std.proofs.Common.{refl}
use Rattle.tp_scenario.proofs.OutcomeTexts.{no_priority}
use Rattle.tp_scenario.proofs.reading.priority_said.Goals as goal

pub returns-in_err-priority-in-Some : goal.returns-in_err-priority-in-Some
returns-in_err-priority-in-Some c = rw c.from_residual.ensures (no_priority _ c.in-Some.text.now (rw c.in-Some.is refl) c.in_err-priority-in-Some.ensures)
