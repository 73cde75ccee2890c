use Rattle.std.proofs.Common.{◌+◌, arith, sym, ap, ◌∙◌}
use Rattle.std.specs.Prelude.{option_map}
use Rattle.std.proofs.lemmas.Option.{none-some}
use Rattle.tp_audit.specs.Orders.{next_of}
use Rattle.tp_audit.proofs.Placing.{next_absent, next_found, place_below}
use Rattle.tp_audit.proofs.orders.Order.next_after.Goals as goal

pub returns-in_err-place : goal.returns-in_err-place
returns-in_err-place c =
    let none = next_absent c.self.inside.line.items c.args.x (λ n h. none-some n (c.in_err-place.ensures.value ∙ c.self.invariant.0.listed c.args.x n h)) in
    c.from_residual.ensures ∙ none ∙ ap (next_of c.args.x) c.self.view_is

pub overflow_add-place : goal.overflow_add-place
overflow_add-place c =
    let n = c.in_ok-place.field-0.now in
    let below = place_below 0 c.self.inside.line.items c.self.inside.line.offers c.args.x n c.law_rises.ensures.rises (c.self.invariant.0.placed c.args.x n (sym c.in_ok-place.ensures.value)) in
    omega (arith, below, c.self.invariant.1)

pub returns-in_err-next : goal.returns-in_err-next
returns-in_err-next c =
    let n = c.in_ok-place.field-0.now in
    let found = next_found c.self.inside.line.items c.self.inside.places c.self.inside.line.offers c.args.x n (n + 1) c.self.invariant.0 c.law_rises.ensures.rises c.in_ok-place.ensures.value (omega arith) in
    c.from_residual-in_err-next.ensures ∙ ap (option_map (λ p. p.0)) c.in_err-next.ensures ∙ found ∙ ap (next_of c.args.x) c.self.view_is

pub returns : goal.returns
returns c =
    let n = c.in_ok-place.field-0.now in
    let found = next_found c.self.inside.line.items c.self.inside.places c.self.inside.line.offers c.args.x n (n + 1) c.self.invariant.0 c.law_rises.ensures.rises c.in_ok-place.ensures.value (omega arith) in
    ap (option_map (λ p. p.0)) c.in_ok-next.ensures ∙ found ∙ ap (next_of c.args.x) c.self.view_is
