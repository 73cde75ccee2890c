use Rattle.tp_scenario.proofs.LineLaws.{line_read}
use Rattle.tp_scenario.proofs.reading.step_of.Goals as goal

pub returns : goal.returns
returns c = line_read _ _ _ c.in_ok-command.field-0 c.first_word.ensures c.in_ok-command.ensures.1 c.after_command.result c.after_command.ensures
