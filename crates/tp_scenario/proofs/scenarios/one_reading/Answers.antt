use Rattle.tp_scenario.proofs.OneReading.{line_text-injective}
use Rattle.tp_scenario.proofs.scenarios.one_reading.Goals as goal

pub returns : goal.returns
returns c = line_text-injective
