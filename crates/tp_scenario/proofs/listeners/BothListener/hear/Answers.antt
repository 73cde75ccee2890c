use Rattle.tp_scenario.proofs.listeners.BothListener.hear.Goals as goal

pub returns : goal.returns
returns g c = λ d xs heard. (c.in_ok-hear.ensures d xs heard.0, c.in_ok-hear-2.ensures d xs heard.1)
