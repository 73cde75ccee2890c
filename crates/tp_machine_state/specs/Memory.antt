-- The memory that a submission takes.
use Rattle.std.specs.Prelude.{ℕ, ◌<◌, IsTrue}
use Rattle.tp_types.specs.declared.tasks.Kind.{Kind}
use Rattle.tp_types.specs.Queues.{is_open}
use Rattle.tp_queue.specs.Queues.{waiting_of}
use Rattle.tp_tasks.specs.Tasks.{IsReady}
use Rattle.tp_machine_state.specs.declared.parts.Parts.{Parts}
use Rattle.tp_machine_state.specs.Kept.{KeepsAtMost}

-- there is memory for one more task of this kind, and a queue that always has room has a place for one task more than are kept
pub record HasMemory {P : Type 0} (p : Parts P) (k : Kind) : Type 0 where
  pub task : IsReady p.tasks k
  pub place : IsTrue (is_open (waiting_of p.queue).kind) → (n : ℕ) × KeepsAtMost p.tasks n × (n < (waiting_of p.queue).capacity)
