use Rattle.std.proofs.Common.{◌≡◌, [], take}
use Rattle.std.specs.Prelude.{filter}
use Rattle.tp_record.specs.State.{task_at}
use Rattle.tp_record.specs.Step.{is_of_group}
use Rattle.tp_rules.specs.PlainState.{shown}
use Rattle.tp_rules.proofs.plain_state.first_of_group.Given as goal

abbrev pub invariant-loop-t : goal.invariant-loop-t
invariant-loop-t l =
    filter (λ t. is_of_group l.group (task_at (shown l.state) t).kind) (take l.t-index l.state.done.items) ≡ []
