-- What is left to do in a pool that is shut down and has no slot.
use Rattle.std.specs.Prelude.{◌≡◌, ◌⊎◌, ◌<◌, length}
use Rattle.tp_record.specs.State.{State}
use Rattle.tp_record.specs.Step.{slot_count}
use Rattle.tp_protocols.specs.declared.rescues.Remains.{Remains}
use Rattle.tp_protocols.specs.declared.rescues.Remains.TheVariants as remains

-- the pool can end: it is stopped, or shut down with no task in its queue
pub record CanEnd (s : State) : Type 0 where
  pub empty : slot_count s ≡ 0
  pub ends : (s.rank ≡ 2) ⊎ ((s.rank ≡ 1) × (length s.queue ≡ 0))

-- tasks are queued in a pool that is shut down, and no slot is there for them
abbrev pub IsStranded : State → Type 0
IsStranded s = (slot_count s ≡ 0) × (s.rank ≡ 1) × (0 < length s.queue)

-- tasks are queued in a pool that runs and has no slot: none is there for them before somebody asks for a worker
abbrev pub IsUnstaffed : State → Type 0
IsUnstaffed s = (slot_count s ≡ 0) × (s.rank ≡ 0) × (0 < length s.queue)

-- tasks are stranded, and the core size allows a worker for them
pub record LacksWorker (s : State) : Type 0 where
  pub stranded : IsStranded s
  pub core : 0 < s.core

-- this is left
abbrev pub IsLeft : State → Remains → Type 0
IsLeft s remains.Nothing = ¬ CanEnd s × ¬ LacksWorker s
IsLeft s remains.End = CanEnd s
IsLeft s (remains.Worker queued) = LacksWorker s × (queued ≡ length s.queue)

-- in a pool that runs so many tasks want a worker: it has none, and its core size allows one
abbrev pub IsWanted : State → Remains → Type 0
IsWanted s (remains.Worker queued) = IsUnstaffed s × (0 < s.core) × (queued ≡ length s.queue)
IsWanted s remains.Nothing = IsUnstaffed s → s.core ≡ 0
IsWanted s remains.End = ⊥
