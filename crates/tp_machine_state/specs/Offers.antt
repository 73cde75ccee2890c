-- When a work queue takes one task more.
use Rattle.std.specs.Prelude.{ℕ, ◌<◌, length}
use Rattle.tp_types.specs.declared.configs.QueueKind.{QueueKind}
use Rattle.tp_types.specs.declared.configs.QueueKind.TheVariants.{Handoff, Unbounded, Bounded, Priority}
use Rattle.tp_queue.specs.Waiting.{Waiting}

-- beside n tasks, in a queue of this kind for which so many places were made: a bounded one below its capacity, one that always has room where a place is left
abbrev pub RoomBy : QueueKind → ℕ → ℕ → Type 0
RoomBy Handoff places n = ⊥
RoomBy Unbounded places n = n < places
RoomBy Priority places n = n < places
RoomBy (Bounded m) places n = n < m

abbrev pub HasRoom : Waiting → Type 0
HasRoom w = RoomBy w.kind w.capacity (length w.items)
