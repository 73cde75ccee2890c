use Rattle.std.proofs.Common.{sym, subst, arith}
use Rattle.std.proofs.lemmas.List.Elements.{Contains-get_or}
use Rattle.tp_explore_walk.proofs.Counted.{IfOk-then, all_held, end_within, many}
use Rattle.tp_explore.specs.Moves as spec
use Rattle.tp_explore.specs.Moves.{Holds}
use Rattle.tp_explore.specs.Situation.{seen}
use Rattle.tp_explore.proofs.Lowering.{stays_in, lowers_rank}
use Rattle.tp_explore.proofs.Starting.{starts_holds}
use Rattle.tp_explore_ends.proofs.explored.explore.Goals as goal

pub walk-requires : goal.walk-requires
walk-requires g c = let plan = c.args.exploration.now.plan in subst (λ s. Holds plan s) (sym c.in-Ok.ensures) (starts_holds plan c.requires)

pub returns-in-Ok-clause-legal : goal.returns-in-Ok-clause-legal
returns-in-Ok-clause-legal g c =
    let plan = c.args.exploration.now.plan in
    let first : Holds plan (seen c.in-Ok.first) = subst (λ s. Holds plan s) (sym c.in-Ok.ensures) (starts_holds plan c.requires) in
    IfOk-then _ _ c.walk.result (λ v w. all_held (spec.moves plan) (Holds plan) (spec.rank plan) (stays_in plan) (lowers_rank plan) seen v.states.items _ _ _ first w) c.walk.ensures.walked

pub returns-in-Ok-clause-within : goal.returns-in-Ok-clause-within
returns-in-Ok-clause-within g c =
    let plan = c.args.exploration.now.plan in
    let first : Holds plan (seen c.in-Ok.first) = subst (λ s. Holds plan s) (sym c.in-Ok.ensures) (starts_holds plan c.requires) in
    IfOk-then _ _ c.walk.result
    (λ v w k d lt.
    let m = many (spec.moves plan) (Holds plan) (spec.rank plan) (stays_in plan) (lowers_rank plan) seen v.states.items _ _ _ first w in
    let p = end_within (spec.moves plan) (Holds plan) (spec.rank plan) (stays_in plan) (lowers_rank plan) seen v.states.items _ _ _ first w _ (Contains-get_or v.ends.items k d lt) in
    omega arith)
    c.walk.ensures.walked
