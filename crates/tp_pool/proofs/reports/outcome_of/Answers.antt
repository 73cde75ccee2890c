use Rattle.std.proofs.Common.{◌≡◌, All, take, arith, subst}
use Rattle.std.proofs.lemmas.Grind.{common_steps}
use Rattle.std.proofs.lemmas.List.Elements.{All-more}
use Rattle.tp_pool.specs.Outcomes.{GivesNone}
use Rattle.tp_pool.proofs.reports.outcome_of.Goals as goal

pub loop-packed-preserved : goal.loop-packed-preserved
loop-packed-preserved c =
    All-more (GivesNone c.args.t.0) c.deref-packed-items.result.now c.loop-packed.packed-index c.packed-item.result c.loop-packed-test.true c.loop-packed.invariant
    (subst (GivesNone c.args.t.0) c.packed-item.is c.in_default.ensures.none)

pub returns-clause-none : goal.returns-clause-none
returns-clause-none c =
    let ys = c.deref-packed-items.result.now in
    let past = c.loop-packed-test.false in
    let all : take c.loop-packed.packed-index ys ≡ ys = grind (arith, common_steps) in
    subst (All (GivesNone c.args.t.0)) c.deref-packed-items.ensures.value (subst (All (GivesNone c.args.t.0)) all c.loop-packed.invariant)
