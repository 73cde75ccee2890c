use Rattle.std.proofs.Common.{◌≡◌, sym, subst}
use Rattle.tp_record.specs.State.{counts}
use Rattle.tp_scenario.specs.Answered.{IsAt, Running}
use Rattle.tp_scenario.proofs.StepLaws.{seen}
use Rattle.tp_scenario.proofs.step.Runner.counts.Goals as goal

pub returns : goal.returns
returns c = λ p is.
    let m = c.self.inside.machine in
    let at = subst (λ (r : Running). IsAt r p) (sym c.self.view_is) is in
    seen m m c.self.inside.outcomes.items p at (λ s. c.counts.result ≡ counts s) c.counts.ensures
