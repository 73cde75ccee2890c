-- What a verdict hands out.
use Rattle.std.specs.Prelude.{◌≡◌, Option, None}
use Rattle.tp_types.specs.declared.ids.TaskId.{TaskId}
use Rattle.tp_record.specs.declared.entries.Ruled.{Ruled}
use Rattle.tp_record.specs.declared.entries.Ruled.TheVariants as ruled
use Rattle.tp_tasks.specs.declared.tasks.Tasks.{Tasks}
use Rattle.tp_machine_state.specs.Payloads.{Keeps, HandsOut}

-- o is the payload of the task that waits no more after this answer to a verdict on task t: the dropped head's after a retry that drops one,
-- nobody's after another retry, else t's own
abbrev pub Yields : {P : Type 0} → Tasks P → Tasks P → TaskId → Ruled → Option P → Type 0
Yields old new t ruled.Retry o = Keeps old new × (o ≡ None)
Yields old new t (ruled.RetryDrop u) o = HandsOut old new u.0 o
Yields old new t _ o = HandsOut old new t.0 o
