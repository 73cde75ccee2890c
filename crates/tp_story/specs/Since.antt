-- Since when tasks and slots are where they are.
use Rattle.std.specs.Prelude.{ℕ, ◌≡◌, ◌-◌, ◌≤◌, ◌<◌, ◌&&◌, ◌++◌, ◌∷◌, List, [], Option, Some, None, nat_eq, is_some, is_none, length, slice_get, option_map, drop, vec_len, vec_capacity, if◌then◌else◌}
use Rattle.indexmap.specs.IndexMap.{get, spare}
use Rattle.tp_record.specs.declared.entries.Entry.{Entry}
use Rattle.tp_record.specs.declared.entries.Did.{Did}
use Rattle.tp_record.specs.declared.entries.Did.TheVariants as did
use Rattle.tp_record.specs.declared.entries.Seconded.TheVariants as seconded
use Rattle.tp_record.specs.declared.rows.SlotRow.{SlotRow}
use Rattle.tp_record.specs.Effects.{is_submit, idles}
use Rattle.tp_types.specs.declared.tasks.Place.TheVariants as at
use Rattle.tp_record.specs.Fields.{now, place, slot_rows}
use Rattle.tp_record.specs.Lists.{is_it}
use Rattle.tp_record.specs.State.{slot_at}
use Rattle.tp_record.specs.Words.{wakes}
use Rattle.tp_laws.proofs.Effects.Names.{names, drops, seats, replaces}
use Rattle.tp_audit.specs.Changed.{change_at}
use Rattle.tp_story.specs.declared.times.Since.{Since}
use Rattle.tp_story.specs.declared.times.TaskTime.{TaskTime}
use Rattle.tp_story.specs.declared.times.SlotTime.{SlotTime}
use Rattle.tp_story.specs.declared.times.Times.{Times}

-- the last entry of this history, and the moment after it
abbrev pub latest : List Entry → Since
latest h = record { number = length h; moment = now h }

-- the task that an entry moves by its name: a second look that lets it stay moves none, and neither does a cancel
abbrev pub moved : Did → Option ℕ
moved (did.Cancel t flag b) = None
moved (did.Second t seconded.Stay) = None
moved (did.Second t (seconded.StayReserve w)) = None
moved d = names d

abbrev pub no_time : TaskTime
no_time = record { by = 0; since = record { number = 0; moment = 0 } }

-- the times of the tasks, where this task comes to where it is
abbrev pub moved_at : Since → Option ℕ → List TaskTime → List TaskTime
moved_at s o ts = change_at (λ t r. record r { since = s }) no_time o ts

-- the times of the tasks, where an entry of this pass submits one
abbrev pub submitted_at : Did → ℕ → Since → List TaskTime → List TaskTime
submitted_at d by s ts = if is_submit d then ts ++ record { by = by; since = s } ∷ [] else ts

-- the times of the tasks after an entry of this pass
abbrev pub times_after : Did → ℕ → Since → List TaskTime → List TaskTime
times_after d by s ts = moved_at s (drops d) (moved_at s (moved d) (submitted_at d by s ts))

-- for each task of a history, by number: which pass submitted it, and the last entry that moved it
abbrev pub task_times : List Entry → List TaskTime
task_times [] = []
task_times (e ∷ h) = times_after e.did e.by (latest (e ∷ h)) (task_times h)

-- the time of slot w, where an entry turns the slot o: it has none once it is no slot
abbrev pub turned_at : List (Option SlotRow) → Option ℕ → SlotTime → ℕ → Option SlotTime → Option SlotTime
turned_at slots o s w was = if is_it o w then (if is_some (slot_at slots w) then Some s else None) else was

-- when an entry turns a slot; whether it leaves it idle
abbrev pub turning : Did → Since → SlotTime
turning d s = record { since = s; is_idle = is_some (idles d) }

-- the last entry of a history that names slot w, if it is a slot
abbrev pub slot_time : List Entry → ℕ → Option SlotTime
slot_time [] w = None
slot_time (e ∷ h) w =
    turned_at (slot_rows (e ∷ h)) (replaces e.did) (turning e.did (latest (e ∷ h))) w
    (turned_at (slot_rows (e ∷ h)) (seats e.did) (turning e.did (latest (e ∷ h))) w (slot_time h w))

-- the first entry that woke all idle workers, after one more
abbrev pub wake_after : Option Since → Did → Since → Option Since
wake_after woken d s = if wakes d && is_none woken then Some s else woken

-- the first entry of a history that woke all idle workers: none becomes idle after it
abbrev pub first_wake : List Entry → Option Since
first_wake [] = None
first_wake (e ∷ h) = wake_after (first_wake h) e.did (latest (e ∷ h))

-- when a worker came to where it is, by the last entry that names its slot: one that it left idle was woken later, if all were
abbrev pub woken_at : Option Since → SlotTime → Since
woken_at None r = r.since
woken_at (Some s) r = if r.is_idle then s else r.since

-- the last entry of a history that moved task t
abbrev pub task_since : List Entry → ℕ → Option Since
task_since h t = option_map (λ r. r.since) (slice_get (task_times h) t)

-- the pass that submitted task t
abbrev pub submitter : List Entry → ℕ → Option ℕ
submitter h t = option_map (λ r. r.by) (slice_get (task_times h) t)

-- the last entry of a history that turned slot w or woke its worker
abbrev pub slot_since : List Entry → ℕ → Option Since
slot_since h w = option_map (woken_at (first_wake h)) (slot_time h w)

-- what was noted of a history
pub record Timed (h : List Entry) (t : Times) : Type 0 where
  pub tasks : t.tasks.items ≡ task_times h
  pub slots : (w : ℕ) → get nat_eq t.slots w ≡ slot_time h w
  pub woken : t.woken ≡ first_wake h

-- there is room for what one more entry makes
abbrev pub HasRoom : Times → Type 0
HasRoom t = (vec_len t.tasks < vec_capacity t.tasks) × (2 ≤ spare t.slots)

-- the history of the first n entries of a record
abbrev pub front : ℕ → List Entry → List Entry
front n h = drop (length h - n) h

-- a task that is not gone is where it is since the last entry that moved it: it is there at each front from that entry on
abbrev pub StaysSince : List Entry → ℕ → Since → Type 0
StaysSince h t s = (place h t ≡ at.Gone → ⊥) → (n : ℕ) → s.number ≤ n → n ≤ length h → place (front n h) t ≡ place h t
