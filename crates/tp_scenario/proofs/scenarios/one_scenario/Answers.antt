use Rattle.tp_scenario.proofs.OneScenario.{says_one}
use Rattle.tp_scenario.proofs.scenarios.one_scenario.Goals as goal

pub returns : goal.returns
returns c = says_one
