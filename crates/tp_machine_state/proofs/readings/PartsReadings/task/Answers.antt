use Rattle.std.proofs.Common.{◌∙◌}
use Rattle.tp_machine_state.proofs.Reading.{row_read}
use Rattle.tp_machine_state.proofs.readings.PartsReadings.task.Goals as goal

pub returns-clause-row : goal.returns-clause-row
returns-clause-row g c = λ s reads. c.row.ensures ∙ row_read c.args.self.now s reads.shows c.args.t.0

pub returns-clause-gone : goal.returns-clause-gone
returns-clause-gone g c = λ s reads off. reads.gone c.args.t.0 off
