use Rattle.std.proofs.Common.{◌≡◌, subst}
use Rattle.std.specs.Prelude.{IfSome}
use Rattle.tp_explore_text.specs.Explored.{IsExplored}
use Rattle.poolrun_commands.proofs.Explorations.{told_of_plan}
use Rattle.poolrun_commands.proofs.explores.told_of_plan.Goals as goal

pub returns-in-Some : goal.returns-in-Some
returns-in-Some g c =
    let found = subst (λ o. IfSome o (λ e. (e.named ≡ c.args.named) × IsExplored e)) c.in-Some.is c.in_ok-explored.ensures.explored in
    told_of_plan c.in-Some.explored c.args.named c.args.exploring.now c.told_of.result found.0 found.1 c.told_of.ensures
