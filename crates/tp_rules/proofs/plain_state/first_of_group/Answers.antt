use Rattle.std.proofs.Common.{◌≡◌, ◌<◌, ◌∙◌, ℕ, true, List, Some, get_or, length, ap, sym, arith}
use Rattle.std.specs.Prelude.{slice_get}
use Rattle.tp_record.specs.State.{task_at}
use Rattle.tp_record.specs.Step.{is_of_group}
use Rattle.tp_rules.specs.PlainState.{shown}
use Rattle.tp_rules.proofs.Tables.{filter_first}
use Rattle.tp_rules.proofs.plain_state.first_of_group.Goals as goal

pub returns-then-is_of_group : goal.returns-then-is_of_group
returns-then-is_of_group c =
    let s = shown c.args.state.now in
    let same : c.deref-t-items.result.now ≡ s.done = c.deref-t-items.ensures.value in
    let within : c.loop-t.t-index < length s.done = omega (arith, ap length same, c.loop-t-test.true) in
    let found : is_of_group c.args.group (task_at s (get_or s.done c.loop-t.t-index 0)).kind ≡ true = cc (c.is_of_group.ensures, c.task_at.ensures, c.if-is_of_group.true) in
    let first = filter_first (λ t. is_of_group c.args.group (task_at s t).kind) s.done c.loop-t.t-index 0 within c.loop-t.invariant found in
    ap (λ (xs : List ℕ). Some (get_or xs c.loop-t.t-index 0)) same
    ∙ sym (ap (λ xs. slice_get xs 0) first)
