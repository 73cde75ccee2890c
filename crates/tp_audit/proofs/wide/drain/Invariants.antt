use Rattle.std.proofs.Common.{ℕ, ◌<◌, ◌-◌, ◌^◌, length}
use Rattle.std.specs.Prelude.{vec_len}
use Rattle.tp_record.specs.State.{row_after, row_at, no_row}
use Rattle.tp_audit.specs.Queued.{tasks_of, Keeps}
use Rattle.tp_audit.proofs.Sweeping.{Swept}
use Rattle.tp_audit.proofs.wide.drain.Given as goal

abbrev pub invariant-loop-t : goal.invariant-loop-t
invariant-loop-t l =
    record {
      number : vec_len l.tasks < 2 ^ 32;
      few : (t : ℕ) → (row_at l.tasks.items t).retries < 2 ^ 32 - 1;
      swept : Swept (row_after l.did) no_row l.fn.tasks.items (tasks_of l.fn.queue) (tasks_of l.queue) l.tasks.items;
      kept : Keeps l.fn.queue l.queue;
    }

abbrev pub decreases-loop-t : goal.decreases-loop-t
decreases-loop-t l = length (tasks_of l.queue)
