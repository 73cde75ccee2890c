use Rattle.std.proofs.Common.{ℕ, ◌∙◌, sym, ap, subst}
use Rattle.tp_record.specs.Lists.{without}
use Rattle.tp_ring.specs.Line.{Line, ids}
use Rattle.tp_audit.specs.Orders.{ArePlaced}
use Rattle.tp_audit.proofs.Placing.{placed-less, ids-less, ids-absent}
use Rattle.tp_audit.proofs.orders.Order.remove.Goals as goal

pub invariant_of-self : goal.invariant_of-self
invariant_of-self c =
    let less = placed-less c.self.inside.line.items c.self.inside.places c.swap_remove.new.self c.args.x c.in-Some.place c.self.invariant.0
    c.self.inside.line.offers c.law_rises.ensures.rises c.in-Some.ensures.value c.swap_remove.ensures.updates in
    (subst (λ (l : Line ℕ). ArePlaced l.items c.swap_remove.new.self) (sym c.remove.ensures) less, c.self.invariant.1 ∙ sym (ap (λ (l : Line ℕ). l.offers) c.remove.ensures))

pub returns-in-Some : goal.returns-in-Some
returns-in-Some c =
    ap (λ (l : Line ℕ). ids l.items) c.remove.ensures
    ∙ ids-less c.self.inside.line.items c.self.inside.places c.swap_remove.new.self c.args.x c.in-Some.place c.self.invariant.0 c.self.inside.line.offers c.law_rises.ensures.rises c.in-Some.ensures.value c.swap_remove.ensures.updates
    ∙ ap (without c.args.x) c.self.view_is

pub returns-in_default : goal.returns-in_default
returns-in_default c =
    ids-absent c.self.inside.line.items c.self.inside.places c.args.x c.self.invariant.0 (sym c.in_default.is ∙ c.swap_remove.ensures.value)
    ∙ ap (without c.args.x) c.self.view_is
