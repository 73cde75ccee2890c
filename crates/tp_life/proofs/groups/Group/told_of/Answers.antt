use Rattle.std.proofs.Common.{inl, inr, refl, subst}
use Rattle.std.specs.Prelude.{None}
use Rattle.tp_pool_holds.specs.Moments.{BookOf}
use Rattle.tp_pool_holds.specs.Readings.{got, IsFound}
use Rattle.tp_pool_holds.specs.declared.tasks.Payload.{Payload}
use Rattle.tp_life.specs.Futures.{IsAnswer}
use Rattle.tp_life.proofs.groups.Group.told_of.Goals as goal

pub returns-in-Some-clause-told : goal.returns-in-Some-clause-told
returns-in-Some-clause-told g c =
    let new = g.P.Controls.pass c.get.new.self in
    let out = c.in-Some.ensures.out in
    inl (
      (c.in-Some.ticket, out),
      c.get.ensures.looks,
      subst (λ t. BookOf (Payload g.row.W.Denot) g.P.Controls.terms new (λ b. IsAnswer g.W.Task.gives (λ r. IsFound b t.0 g.P.Controls.keeps None (got r)) c.get.result)) out.0 c.get.ensures.reads,
    )

pub returns-in-None-clause-told : goal.returns-in-None-clause-told
returns-in-None-clause-told g c = inr (c.in-None.ensures.none, refl, refl)
