use Rattle.std.proofs.Common.{◌≡◌, ◌≤◌, take}
use Rattle.std.specs.Prelude.{count_by}
use Rattle.tp_record.specs.State.{task_at}
use Rattle.tp_rules.specs.PlainState.{shown}
use Rattle.tp_rules.proofs.plain_state.count_cancelled.Given as goal

abbrev pub invariant-loop-t : goal.invariant-loop-t
invariant-loop-t l =
    (l.count ≡ count_by (λ t. (task_at (shown l.state) t).cancelled) (take l.t-index l.state.queue.items)) × (l.count ≤ l.t-index)
