use Rattle.std.proofs.Common.{sym, ap, ◌∙◌}
use Rattle.std.specs.Prelude.{slice_get, option_map}
use Rattle.std.proofs.lemmas.Option.{none-some}
use Rattle.tp_ring.specs.Line.{ids}
use Rattle.tp_audit.specs.Orders.{next_of}
use Rattle.tp_audit.specs.Ranked.{keyed}
use Rattle.tp_audit.proofs.Placing.{next_absent}
use Rattle.tp_audit.proofs.Treed.{next_behind}
use Rattle.tp_audit.proofs.ranks.Ranks.next_after.Goals as goal

pub returns-in_err-key : goal.returns-in_err-key
returns-in_err-key c =
    let none = next_absent (keyed c.self.inside.tasks.entries) c.args.t (λ n h. none-some n (c.in_err-key.ensures.value ∙ c.self.invariant.placed.listed c.args.t n h)) in
    c.from_residual.ensures ∙ none ∙ ap (λ xs. next_of c.args.t (ids xs)) c.self.view_is

pub returns-in-Some : goal.returns-in-Some
returns-in-Some c =
    let inside = c.self.inside in
    ap (λ s. option_map (λ e. e.1) (slice_get s 0)) (sym c.in-Some.ensures.steps)
    ∙ next_behind inside.tasks.entries inside.keys inside.came c.self.invariant c.args.t c.in_ok-key.field-0.now c.range.result c.in_ok-key.ensures.value (c.range.ensures.between tt)
    ∙ ap (λ xs. next_of c.args.t (ids xs)) c.self.view_is

pub returns-in-None : goal.returns-in-None
returns-in-None c =
    let inside = c.self.inside in
    ap (λ s. option_map (λ e. e.1) (slice_get s 0)) (sym c.in-None.ensures.steps.0)
    ∙ next_behind inside.tasks.entries inside.keys inside.came c.self.invariant c.args.t c.in_ok-key.field-0.now c.range.result c.in_ok-key.ensures.value (c.range.ensures.between tt)
    ∙ ap (λ xs. next_of c.args.t (ids xs)) c.self.view_is
