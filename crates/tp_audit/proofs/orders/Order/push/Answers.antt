use Rattle.std.proofs.Common.{◌≡◌, false, OnOk, Result, Ok, Err, is_err, subst}
use Rattle.std.specs.Prelude.{Contains}
use Rattle.tp_audit.proofs.Placing.{pushed}
use Rattle.tp_audit.proofs.orders.Order.push.Goals as goal

on_success : {A E : Type 0} (r : Result A E) (P : Type 0) → false ≡ is_err r → OnOk r P → P
on_success (Ok a) P none holds = holds
on_success (Err e) P none holds = cc

pub invariant_of-self-2 : goal.invariant_of-self-2
invariant_of-self-2 c =
    pushed c.self.inside.line c.make_place.new.line c.offer.new.self c.self.inside.places c.insert.new.self c.args.x c.self.inside.came c.offer.result c.self.invariant c.make_place.ensures.same
    c.if-is_err-2.ensures.value c.offer.ensures.queued (on_success c.insert.result _ c.if-is_err.ensures.value c.insert.ensures.updates)
    (λ there. c.requires (subst (λ xs. Contains xs c.args.x) c.self.view_is there))
