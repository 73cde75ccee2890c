use Rattle.std.proofs.Common.{◌≡◌, take}
use Rattle.tp_record.specs.Lists.{change_each}
use Rattle.tp_record.specs.State.{row_after}
use Rattle.tp_rules.proofs.next.tasks_after.Given as goal

abbrev pub invariant-loop-t : goal.invariant-loop-t
invariant-loop-t l = l.after.items ≡ change_each (row_after l.did) 0 (take l.t l.state.tasks.items)
