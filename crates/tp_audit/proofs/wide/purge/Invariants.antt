use Rattle.std.proofs.Common.{ℕ, ◌≡◌, ◌<◌, ◌-◌, ◌^◌, true, false, not, length}
use Rattle.std.specs.Prelude.{vec_len, filter}
use Rattle.tp_record.specs.Lists.{is_it, is_among, IsOnce}
use Rattle.tp_record.specs.State.{row_after, row_at, no_row}
use Rattle.tp_audit.specs.Orders.{from_on}
use Rattle.tp_audit.specs.Queued.{tasks_of, Keeps}
use Rattle.tp_audit.proofs.Sweeping.{Swept}
use Rattle.tp_audit.proofs.wide.purge.Given as goal

abbrev pub invariant-loop-next : goal.invariant-loop-next
invariant-loop-next l =
    record {
      number : vec_len l.tasks < 2 ^ 32;
      few : (t : ℕ) → (row_at l.tasks.items t).retries < 2 ^ 32 - 1;
      cancelled : (t : ℕ) → (row_at l.tasks.items t).cancelled ≡ (row_at l.fn.tasks.items t).cancelled;
      swept : Swept (row_after l.did) no_row l.fn.tasks.items (tasks_of l.fn.queue) (from_on l.next (tasks_of l.queue)) l.tasks.items;
      once : IsOnce (tasks_of l.queue);
      there : (t : ℕ) → is_it l.next t ≡ true → is_among t (tasks_of l.queue) ≡ true;
      kept : filter (λ t. not (row_at l.fn.tasks.items t).cancelled) (tasks_of l.queue) ≡ filter (λ t. not (row_at l.fn.tasks.items t).cancelled) (tasks_of l.fn.queue);
      past : (t : ℕ) → is_among t (tasks_of l.queue) ≡ true → is_among t (from_on l.next (tasks_of l.queue)) ≡ false → not (row_at l.fn.tasks.items t).cancelled ≡ true;
      keeps : Keeps l.fn.queue l.queue;
    }

abbrev pub decreases-loop-next : goal.decreases-loop-next
decreases-loop-next l = length (from_on l.next (tasks_of l.queue))
