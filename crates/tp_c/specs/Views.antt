-- What is seen of a pool and of a task, as plain numbers.
use Rattle.std.specs.Prelude.{ℕ, ◌≡◌, ◌⊎◌, ◌-◌, ◌^◌, ◌∷◌, false, List, Option, Some, None, slice_get}
use Rattle.tp_types.specs.declared.ids.TaskId.{TaskId}
use Rattle.tp_types.specs.declared.configs.Config.{Config}
use Rattle.tp_types.specs.declared.refusals.PoolError.{PoolError}
use Rattle.tp_types.specs.declared.refusals.PoolError.TheVariants.{NoMemory}
use Rattle.tp_types.specs.PoolError.{refusal_number}
use Rattle.tp_types.specs.declared.states.Counts.{Counts}
use Rattle.tp_types.specs.declared.tasks.Place.{Place}
use Rattle.tp_types.specs.declared.tasks.Place.TheVariants as place
use Rattle.tp_types.specs.declared.tasks.Fate.{Fate}
use Rattle.tp_types.specs.declared.tasks.Fate.TheVariants as fate
use Rattle.tp_record.specs.declared.entries.Entry.{Entry}
use Rattle.tp_record.specs.declared.recorders.Tally.{Tally}
use Rattle.tp_record.specs.Left.{left, MayRelease}
use Rattle.tp_record.specs.State.{State, state, counts, fate_of, task_at}
use Rattle.tp_record.specs.Step.{is_known, slot_count}
use Rattle.tp_text_record.specs.declared.versions.Version.TheVariants.{Two}
use Rattle.tp_text_record.specs.RecordText.{record_text}
use Rattle.tp_machine_state.specs.Releases.{IsKept}
use Rattle.tp_machine.specs.Seen.{Seen, At, config_of}
use Rattle.tp_machine.specs.Readings.{EachState}
use Rattle.tp_c.specs.declared.answers.PoolView.{PoolView}
use Rattle.tp_c.specs.declared.answers.TaskView.{TaskView}
use Rattle.tp_c.specs.declared.handles.Kept.{Kept}
use Rattle.tp_c.specs.declared.handles.Kept.TheVariants.{Full, Tallied}
use Rattle.tp_c.specs.declared.handles.Handle.{Handle}
use Rattle.tp_c.specs.declared.statuses.Status.TheVariants.{Done}
use Rattle.tp_c.specs.Handles.{tells_whole, tells_length}
use Rattle.tp_c.specs.Rooms.{IsLaid}

-- what holds of the state of each history at which the machine stands
abbrev pub Each : Kept → (State → Type 0) → Type 0
Each (Full m) F = EachState tells_whole m F
Each (Tallied m) F = EachState tells_length m F

-- the twelve counters in a view
abbrev pub counts_in : PoolView → Counts
counts_in v = record { submitted = v.submitted; run = v.run; caller = v.caller; rejected = v.rejected; discarded = v.discarded; handedback = v.handedback; removed = v.removed; cancelled = v.cancelled; completed = v.completed; queued = v.queued; live = v.live; largest = v.largest }

abbrev pub place_number : Place → ℕ
place_number place.Looking = 0
place_number place.ToOffer = 1
place_number place.ToGrow = 2
place_number place.Refused = 3
place_number place.Queued = 4
place_number (place.Held w) = 5
place_number (place.Taken w) = 6
place_number (place.Running w) = 7
place_number place.Caller = 8
place_number place.Gone = 9

-- the slot of a place, or the number of none
abbrev pub place_slot : Place → ℕ
place_slot (place.Held w) = w.0
place_slot (place.Taken w) = w.0
place_slot (place.Running w) = w.0
place_slot _ = 2 ^ 64 - 1

abbrev pub fate_number : Option Fate → ℕ
fate_number None = 0
fate_number (Some fate.Run) = 1
fate_number (Some fate.RunByCaller) = 2
fate_number (Some fate.Rejected) = 3
fate_number (Some fate.Discarded) = 4
fate_number (Some fate.HandedBack) = 5
fate_number (Some fate.Removed) = 6
fate_number (Some fate.Cancelled) = 7

-- a view of a pool is of the state at which the machine stands
abbrev pub Sees : Kept → PoolView → Type 0
Sees k v = Each k (λ s. counts_in v ≡ counts s) × Each k (λ s. v.state ≡ s.rank) × Each k (λ s. v.core ≡ s.core)
    × Each k (λ s. v.slots ≡ slot_count s) × Each k (λ s. v.now ≡ s.now) × Each k (λ s. v.steps ≡ s.steps)

-- and so is a view of task t
abbrev pub SeesTask : Kept → ℕ → TaskView → Type 0
SeesTask k t v = Each k (λ s. v.place ≡ place_number (task_at s t).place) × Each k (λ s. v.slot ≡ place_slot (task_at s t).place)
    × Each k (λ s. v.fate ≡ fate_number (fate_of (task_at s t)))

-- task t is told so, or there is none
abbrev pub IsTaskTold : Kept → ℕ → TaskView → TaskView → ℕ → Type 0
IsTaskTold k t old new status = ((status ≡ 0) × SeesTask k t new) ⊎ ((status ≡ 6) × (new ≡ old) × Each k (λ s. is_known s t ≡ false))

-- the task at this index of those that were handed back, or there is none
abbrev pub IsHanded : List (TaskId × Option (Unit {0})) → ℕ → ℕ → ℕ → ℕ → Type 0
IsHanded xs i old new status = ((x : TaskId × Option (Unit {0})) × (slice_get xs i ≡ Some x) × (status ≡ 0) × (new ≡ x.0.0))
    ⊎ ((slice_get xs i ≡ None) × (status ≡ 6) × (new ≡ old))

module _ (m n : Seen (Unit {0}) Tally) (t status : ℕ) where
  -- the machine, which keeps no record, has forgotten task t
  pub record IsForgotten : Type 0 where
    pub released : (h : List Entry) (rs : List ℕ) → At tells_length m h rs → MayRelease (left rs (state (config_of m) h)) t × At tells_length n h (t ∷ rs)
    pub done : status ≡ 0

  -- it keeps the task, for this reason
  pub record IsNotForgotten : Type 0 where
    pub error : PoolError
    pub why : EachState tells_length m (λ s. IsKept s t error)
    pub unchanged : n ≡ m
    pub refused : status ≡ refusal_number error

-- what a machine of this kind does with a task that is to be forgotten: one that keeps its record forgets none
abbrev pub Releases : Kept → Kept → ℕ → ℕ → Type 0
Releases (Full m) (Full n) t status = (n ≡ m) × (status ≡ 34)
Releases (Tallied m) (Tallied n) t status = IsForgotten m n t status ⊎ IsNotForgotten m n t status
Releases _ _ t status = ⊥

-- and nothing else of it changes
abbrev pub IsReleased : Handle → Handle → ℕ → ℕ → Type 0
IsReleased old new t status = Releases old.kept new.kept t status × (new.handed ≡ old.handed) × (new.config ≡ old.config)

-- the text of a record that a machine of this kind keeps is laid into the room; one that keeps none has no text
abbrev pub LaysRecord : Kept → Config → List ℕ → List ℕ → ℕ → ℕ → Type 0
LaysRecord (Full m) c old new needed status = IsLaid (record_text Two c m.noted.entries) Done old new needed status ⊎ ((status ≡ refusal_number NoMemory) × (new ≡ old))
LaysRecord (Tallied m) c old new needed status = (status ≡ 34) × (new ≡ old)

abbrev pub IsRecordLaid : Handle → List ℕ → List ℕ → ℕ → ℕ → Type 0
IsRecordLaid h old new needed status = LaysRecord h.kept h.config old new needed status
