-- What a contract sees of a work queue.
use Rattle.std.specs.Prelude.{ℕ, ◌≡◌, ◌^◌, List, [], if◌then◌else◌}
use Rattle.tp_types.specs.declared.configs.QueueKind.{QueueKind}
use Rattle.tp_types.specs.declared.configs.QueueKind.TheVariants.{Handoff, Unbounded, Bounded, Priority}
use Rattle.tp_types.specs.declared.ids.TaskId.{TaskId}
use Rattle.tp_types.specs.Queues.{is_ranked}
use Rattle.tp_ring.specs.Line.{Line}
use Rattle.tp_ring.specs.Ranks.{key}

-- the kind; the tasks that wait, in order, each with its key; how many may wait; how many offers were accepted so far. With the
-- kind the capacity is known: none for a handoff, the configured one for a bounded queue, what was reserved for the others
pub record Waiting : Type 0 where
  pub kind : QueueKind
  pub items : List (TaskId × ℕ)
  pub capacity : ℕ
  pub offers : ℕ

-- the key under which a task of this priority and place number waits: the number alone, where the queue does not go by priority
abbrev pub place_key : QueueKind → ℕ → ℕ → ℕ
place_key k priority number = if is_ranked k then key priority number else number

-- no key is so great
abbrev pub key_bound : QueueKind → ℕ → ℕ
key_bound k offers = if is_ranked k then 2 ^ 96 else offers

-- a queue of this kind whose tasks wait in this line
abbrev pub waiting_in : QueueKind → Line TaskId → Waiting
waiting_in k l = record { kind = k; items = l.items; capacity = l.capacity; offers = l.offers }

-- how many places a queue of this kind has at first, where an unbounded one is made with room for so many
abbrev pub first_places : ℕ → QueueKind → ℕ
first_places room Handoff = 0
first_places room Unbounded = room
first_places room (Bounded n) = n
first_places room Priority = 0

-- an empty queue of this kind, made with such room, without an accepted offer so far
abbrev pub first_waiting : ℕ → QueueKind → Waiting
first_waiting room k = record { kind = k; items = []; capacity = first_places room k; offers = 0 }

-- a queue of this kind may have so many places: an unbounded one has what was reserved
abbrev pub HasPlaces : QueueKind → ℕ → Type 0
HasPlaces Handoff n = n ≡ 0
HasPlaces Unbounded n = Unit {0}
HasPlaces (Bounded m) n = n ≡ m
HasPlaces Priority n = Unit {0}
