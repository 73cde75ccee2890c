use Rattle.std.proofs.Common.{ℕ, ◌≡◌, ◌+◌, true, length}
use Rattle.std.specs.Prelude.{count_by}
use Rattle.tp_record.specs.Lists.{is_it, is_among}
use Rattle.tp_record.specs.State.{row_at}
use Rattle.tp_audit.specs.Orders.{from_on}
use Rattle.tp_audit.specs.Queued.{tasks_of}
use Rattle.tp_audit.proofs.walks.count_cancelled.Given as goal

abbrev pub invariant-loop-next : goal.invariant-loop-next
invariant-loop-next l =
    record {
      counted : l.count + count_by (λ t. (row_at l.tasks.items t).cancelled) (from_on l.next (tasks_of l.queue)) ≡ count_by (λ t. (row_at l.tasks.items t).cancelled) (tasks_of l.queue);
      there : (t : ℕ) → is_it l.next t ≡ true → is_among t (tasks_of l.queue) ≡ true;
    }

abbrev pub decreases-loop-next : goal.decreases-loop-next
decreases-loop-next l = length (from_on l.next (tasks_of l.queue))
