-- What ties a pool's structures to one another and to its settings.
use Rattle.std.specs.Prelude.{ℕ, ◌≡◌, ◌<◌, ◌≤◌, ◌^◌, Bool, true, false, not, ◌&&◌, [], Option, Some, None, is_some, IfSome, IsTrue}
use Rattle.std.specs.List.{Contains}
use Rattle.tp_types.specs.Config.{IsConfig}
use Rattle.tp_types.specs.Promise.{FitsPromise}
use Rattle.tp_types.specs.declared.configs.Config.{Config}
use Rattle.tp_types.specs.declared.ids.TaskId.{TaskId}
use Rattle.tp_types.specs.declared.tasks.Place.{Place}
use Rattle.tp_types.specs.declared.tasks.Place.TheVariants as at
use Rattle.tp_types.specs.declared.tasks.Promise.{Promise}
use Rattle.tp_types.specs.Queues.{is_open}
use Rattle.tp_record.specs.declared.rows.TaskRow.{TaskRow}
use Rattle.tp_queue.specs.Queues.{waiting_of}
use Rattle.tp_queue.specs.Waiting.{Waiting, place_key}
use Rattle.tp_tasks.specs.Tasks.{row_of, number_of, payload_of, promise_of}
use Rattle.tp_record.specs.State.{state}
use Rattle.tp_machine_state.specs.declared.parts.Parts.{Parts}
use Rattle.tp_machine_state.specs.Kept.{KeepsAtMost}
use Rattle.tp_machine_state.specs.Shows.{Shows}
use Rattle.tp_machine_state.specs.Terms.{terms}

-- a task in this place has not begun and is not gone
abbrev pub is_before : Place → Bool
is_before (at.Running w) = false
is_before at.Caller = false
is_before at.Gone = false
is_before _ = true

-- a task that waits: not begun, not gone, not cancelled
abbrev pub is_waiting : TaskRow → Bool
is_waiting r = is_before r.place && not r.cancelled

abbrev pub waits : Option TaskRow → Bool
waits None = false
waits (Some r) = is_waiting r

-- the outcome of a task, if it has one, is as it promised
abbrev pub KeepsPromise : Option Promise → Option TaskRow → Type 0
KeepsPromise (Some p) (Some r) = IfSome r.outcome (FitsPromise p)
KeepsPromise _ _ = Unit {0}

-- the priority of a task with this row
abbrev pub priority_in : Option TaskRow → ℕ
priority_in None = 0
priority_in (Some r) = r.priority

-- a task with this row and this place number waits under this key: it is made of both, and the number is below that of the offers
pub record IsKeyed (w : Waiting) (row : Option TaskRow) (place : Option ℕ) (key : ℕ) : Type 0 where
  pub number : ℕ
  pub accepted : number < w.offers
  pub known : place ≡ Some number
  pub made : key ≡ place_key w.kind (priority_in row) number

-- each queued task waits under the key of its priority and of the place number that it knows
abbrev pub AreKeyed : {P : Type 0} → Parts P → Type 0
AreKeyed p = (t : TaskId) (key : ℕ) → Contains (waiting_of p.queue).items (t, key) → IsKeyed (waiting_of p.queue) (row_of p.tasks t.0) (number_of p.tasks t.0) key

-- after n entries of a pool whose steps are judged by c
pub record IsTied {P : Type 0} (c : Config) (n : ℕ) (p : Parts P) : Type 0 where
  pub made_with : terms p ≡ c
  pub config : IsConfig p.config
  -- the limit is no less than the one that the settings name, and fits 64 bits
  pub limit : (p.config.record_limit ≤ p.limit) × (p.limit < 2 ^ 64)
  -- the sizes are such as a pool may have, and there is a place for each slot below the maximum
  pub least : 1 ≤ p.maximum
  pub sizes : p.core ≤ p.maximum
  pub places : p.maximum ≤ p.slots.places
  -- the queue is of the kind that was asked for, and one that always has room has a place for each task that is kept
  pub kind : (waiting_of p.queue).kind ≡ c.queue
  pub queue_places : IsTrue (is_open c.queue) → KeepsAtMost p.tasks (waiting_of p.queue).capacity
  -- there were no more offers, and no more idle workers, than entries
  pub offers : (waiting_of p.queue).offers ≤ n
  pub idlings : p.slots.idlings ≤ n
  pub keyed : AreKeyed p
  -- there is a payload just for each task that waits
  pub payloads : (t : ℕ) → is_some (payload_of p.tasks t) ≡ waits (row_of p.tasks t)
  -- each task ended as it promised
  pub promises : (t : ℕ) → KeepsPromise (promise_of p.tasks t) (row_of p.tasks t)

-- the structures of a pool without tasks whose steps are judged by c
pub record IsNew {P : Type 0} (c : Config) (p : Parts P) : Type 0 where
  pub shows : Shows p (state c [])
  pub tied : IsTied c 0 p
  pub payloads : (t : ℕ) → payload_of p.tasks t ≡ None
  pub promises : (t : ℕ) → promise_of p.tasks t ≡ None
