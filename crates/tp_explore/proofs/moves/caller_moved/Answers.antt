use Rattle.std.proofs.Common.{◌≡◌, set, ap, ◌∙◌}
use Rattle.tp_record.specs.State as states
use Rattle.tp_rules.specs.PlainState.{shown}
use Rattle.tp_explore.specs.Moves as spec
use Rattle.tp_explore.specs.Situation.{seen}
use Rattle.tp_explore.proofs.Bare.{after_bare}
use Rattle.tp_explore.proofs.moves.caller_moved.Goals as goal

pub returns-clause-after : goal.returns-clause-after
returns-clause-after c =
    let old = c.args.state.now in
    let next = states.next (shown old.pool) c.args.did in
    let moved_on = spec.moved_on_at c.args.plan.now (seen old) c.args.i in
    let caller : c.after-caller.result ≡ spec.after next moved_on c.args.did =
    c.after-caller.ensures ∙ ap (λ p. spec.after p c.moved_on_at.result c.args.did) c.in_ok-pool.ensures.after ∙ after_bare next c.moved_on_at.result c.args.did
    ∙ ap (λ x. spec.after next x c.args.did) c.moved_on_at.ensures in
    let callers = c.in_ok-callers.ensures.items ∙ ap (λ xs. set xs c.args.i c.after-caller.result) c.deref.ensures.value ∙ ap (λ x. set old.callers.items c.args.i x) caller in
    λ i. record { pool = c.in_ok-pool.ensures.after i; callers = callers i; numbers = c.in_ok-numbers.ensures.numbers i }
