use Rattle.std.proofs.Common.{◌≡◌, sym, subst}
use Rattle.tp_types.specs.RunState.{state_rank}
use Rattle.tp_scenario.specs.Answered.{IsAt, Running}
use Rattle.tp_scenario.proofs.StepLaws.{seen}
use Rattle.tp_scenario.proofs.step.Runner.state.Goals as goal

pub returns : goal.returns
returns c = λ p is.
    let m = c.self.inside.machine in
    let at = subst (λ (r : Running). IsAt r p) (sym c.self.view_is) is in
    seen m m c.self.inside.outcomes.items p at (λ s. state_rank c.state.result ≡ s.rank) c.state.ensures
