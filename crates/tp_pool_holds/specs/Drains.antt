-- What a stop hands back.
use Rattle.std.specs.Prelude.{Option, option_map}
use Rattle.tp_types.specs.declared.ids.TaskId.{TaskId}
use Rattle.tp_pool_holds.specs.declared.answers.Drained.{Drained}
use Rattle.tp_pool_holds.specs.declared.tasks.Payload.{Payload}

-- a task that was queued, with its job unless it was cancelled
abbrev pub drained_of : {J : Type 0} → TaskId × Option (Payload J) → Drained J
drained_of h = record { task = h.0; job = option_map (λ k. k.job) h.1 }
