-- The state that a history gives, the state after one more entry, and what is owed and counted in a state.
use Rattle.std.specs.Prelude.{ℕ, zero, suc, ◌+◌, ◌-◌, ◌==◌, max, Bool, true, false, List, [], ◌∷◌, ◌++◌, filter, length, sum_by, count_by, Option, Some, None, Result, Ok, Err, unwrap_or, is_some, option_to_list, slice_index_or, if◌then◌else◌}
use Rattle.tp_types.specs.declared.tasks.Kind.TheVariants as kinds
use Rattle.tp_types.specs.declared.tasks.Place.{Place}
use Rattle.tp_types.specs.declared.tasks.Place.TheVariants as at
use Rattle.tp_types.specs.declared.tasks.Fate.{Fate}
use Rattle.tp_types.specs.declared.tasks.Fate.TheVariants as fate
use Rattle.tp_types.specs.declared.states.Counts.{Counts}
use Rattle.tp_types.specs.declared.configs.Config.{Config}
use Rattle.tp_types.specs.declared.refusals.PoolError.{PoolError}
use Rattle.tp_types.specs.declared.refusals.PoolError.TheVariants.{CancelledTask, Faulted, Lost}
use Rattle.tp_types.specs.Queues.{is_ranked}
use Rattle.tp_record.specs.declared.entries.Entry.{Entry}
use Rattle.tp_record.specs.declared.entries.Did.{Did}
use Rattle.tp_record.specs.declared.rows.Stage.{Stage}
use Rattle.tp_record.specs.declared.rows.Stage.TheVariants as stages
use Rattle.tp_record.specs.declared.rows.TaskRow.{TaskRow}
use Rattle.tp_record.specs.declared.rows.SlotRow.{SlotRow}
use Rattle.tp_record.specs.Lists.{said_of, at_end, change_each, long_enough, join_line}
use Rattle.tp_record.specs.Effects.{Outcome, moved, queues, seconds, kinds_said, priorities_said, cancels, endings, outcomes, tries, is_submit, reserves, holds, turned, seated, idles, completes, hands_out, is_completion, is_plain_fault, reaches, sets_core, sets_maximum, sets_keep, sets_core_timeout, sets_now}
use Rattle.tp_record.specs.Fields.{last_set, rank, now, queue, task_rows, slot_rows, idling, done, completions, largest, swept, handed_back, is_queued_place, is_idle_row, is_live, woken, counted}
use Rattle.std.specs.Prelude.{ℤ}

-- what the steps read: all that a history says of a pool at this moment
pub record State : Type 0 where
  pub steps : ℕ
  pub rank : ℕ
  pub core : ℕ
  pub maximum : ℕ
  pub keep : ℕ
  pub core_timeout : Bool
  pub now : ℕ
  pub tasks : List TaskRow
  -- the queue goes by priority
  pub ranked : Bool
  pub queue : List ℕ
  pub slots : List (Option SlotRow)
  pub idling : List ℕ
  pub done : List ℕ
  pub completions : ℕ
  pub largest : ℕ
  -- the tasks that are left out, and how many of them had each fate
  pub left_out : List ℕ
  pub forgotten : Fate → ℕ

-- the state of a history of a pool that was made with c: no task is left out
abbrev pub state : Config → List Entry → State
state c h =
    record {
      steps = length h;
      rank = rank h;
      core = last_set sets_core c.core h;
      maximum = last_set sets_maximum c.maximum h;
      keep = last_set sets_keep c.keep h;
      core_timeout = last_set sets_core_timeout c.core_timeout h;
      now = now h;
      tasks = task_rows h;
      ranked = is_ranked c.queue;
      queue = queue c h;
      slots = slot_rows h;
      idling = idling h;
      done = done h;
      completions = completions h;
      largest = largest h;
      left_out = [];
      forgotten = λ f. 0;
    }

-- what is read of a task that was never submitted
abbrev pub no_row : TaskRow
no_row = record { kind = kinds.Plain; priority = 0; place = at.Gone; second = false; cancelled = false; ending = None; outcome = None; retries = 0 }

abbrev pub row_at : List TaskRow → ℕ → TaskRow
row_at rows t = slice_index_or rows t no_row

abbrev pub task_at : State → ℕ → TaskRow
task_at s t = row_at s.tasks t

abbrev pub slot_at : List (Option SlotRow) → ℕ → Option SlotRow
slot_at slots w = slice_index_or slots w None

-- Next: the state after an entry

-- task t's row after an entry
abbrev pub row_after : Did → ℕ → TaskRow → TaskRow
row_after d t r =
    record {
      kind = unwrap_or (said_of t (kinds_said d)) r.kind;
      priority = unwrap_or (said_of t (priorities_said d)) r.priority;
      place = unwrap_or (said_of t (moved d)) (swept d r.cancelled r.place);
      second = unwrap_or (said_of t (seconds d)) r.second;
      cancelled = unwrap_or (said_of t (cancels d)) r.cancelled;
      ending = unwrap_or (said_of t (endings d)) (handed_back d r.place r.ending);
      outcome = unwrap_or (said_of t (outcomes d)) r.outcome;
      retries = counted (said_of t (tries d)) r.retries;
    }

abbrev pub tasks_after : Did → List TaskRow → List TaskRow
tasks_after d rows =
    if is_submit d
    then change_each (row_after d) 0 rows ++ row_after d (length rows) no_row ∷ []
    else change_each (row_after d) 0 rows

-- a task that was queued stays in the queue
abbrev pub stays_queued : Did → List TaskRow → ℕ → Bool
stays_queued d rows t = is_queued_place (unwrap_or (said_of t (moved d)) (swept d (row_at rows t).cancelled at.Queued))

-- the queue after an entry: those that stay, and the one that it puts there, behind its equals where the queue goes by priority
abbrev pub queue_after : Bool → Did → List TaskRow → List ℕ → List ℕ
queue_after ranked d rows ts = join_line ranked (λ t. (row_at rows t).priority) (queues d) (filter (stays_queued d rows) ts)

-- the row of a slot that stays, or of a new one
abbrev pub seat_after : Did → State → ℕ → SlotRow → SlotRow
seat_after d s w r =
    record {
      stage = unwrap_or (said_of w (turned s.now (is_plain_fault d (λ t. (task_at s t).kind)) d)) (woken d r.stage);
      task = unwrap_or (said_of w (seated d)) r.task;
    }

abbrev pub no_seat : SlotRow
no_seat = record { stage = stages.Working; task = None }

-- a slot that is made, freed or left a slot
abbrev pub seat_by : Option Bool → SlotRow → (SlotRow → SlotRow) → Option SlotRow → Option SlotRow
seat_by (Some true) made changed o = Some made
seat_by (Some false) made changed o = None
seat_by None made changed (Some r) = Some (changed r)
seat_by None made changed None = None

-- slot w after an entry
abbrev pub slot_after : Did → State → ℕ → Option SlotRow → Option SlotRow
slot_after d s w o = seat_by (said_of w (holds d)) (seat_after d s w no_seat) (seat_after d s w) o

abbrev pub slots_after : Did → State → List (Option SlotRow)
slots_after d s = change_each (slot_after d s) 0 (long_enough (reserves d) None s.slots)

-- a slot that was idle stays idle
abbrev pub stays_idle : Did → State → ℕ → Bool
stays_idle d s w = is_idle_row (slot_after d s w (slot_at s.slots w))

abbrev pub idling_after : Did → State → List ℕ
idling_after d s = filter (stays_idle d s) s.idling ++ option_to_list (idles d)

-- a completion that was not handed out is not handed out
abbrev pub stays_done : Did → ℕ → Bool
stays_done d t = unwrap_or (said_of t (hands_out d)) true

abbrev pub done_after : Did → State → List ℕ
done_after d s = at_end (completes d (λ t. (task_at s t).kind) (λ t. (task_at s t).cancelled)) (filter (stays_done d) s.done)

abbrev pub next : State → Did → State
next s d =
    record {
      steps = suc s.steps;
      rank = max (reaches d) s.rank;
      core = unwrap_or (sets_core d) s.core;
      maximum = unwrap_or (sets_maximum d) s.maximum;
      keep = unwrap_or (sets_keep d) s.keep;
      core_timeout = unwrap_or (sets_core_timeout d) s.core_timeout;
      now = unwrap_or (sets_now d) s.now;
      tasks = tasks_after d s.tasks;
      ranked = s.ranked;
      queue = queue_after s.ranked d s.tasks s.queue;
      slots = slots_after d s;
      idling = idling_after d s;
      done = done_after d s;
      completions = if is_completion d then suc s.completions else s.completions;
      largest = max (count_by is_live (slots_after d s)) s.largest;
      left_out = s.left_out;
      forgotten = s.forgotten;
    }

-- what is owed: the entries that accepted tasks, slots and the pool still need, a rule of our own

-- what is owed by a task in this place, `for_core` where it is held in a slot reserved for the core
abbrev pub place_weight : Bool → Place → ℕ
place_weight for_core at.Looking = 13
place_weight for_core at.ToOffer = 11
place_weight for_core at.ToGrow = 9
place_weight for_core at.Refused = 2
place_weight for_core at.Queued = 6
place_weight for_core (at.Held w) = if for_core then 9 else 5
place_weight for_core (at.Taken w) = 4
place_weight for_core (at.Running w) = 3
place_weight for_core at.Caller = 1
place_weight for_core at.Gone = 0

abbrev pub is_core_stage : Stage → Bool
is_core_stage stages.ReservedCore = true
is_core_stage _ = false

abbrev pub is_core_slot : Option SlotRow → Bool
is_core_slot None = false
is_core_slot (Some r) = is_core_stage r.stage

abbrev pub is_held_for_core : List (Option SlotRow) → Place → Bool
is_held_for_core slots (at.Held w) = is_core_slot (slot_at slots w.0)
is_held_for_core slots _ = false

abbrev pub task_weight : List (Option SlotRow) → TaskRow → ℕ
task_weight slots r = place_weight (is_held_for_core slots r.place) r.place + (if r.second then 4 else 0)

abbrev pub stage_weight : ℕ → Bool → Stage → ℕ
stage_weight rank busy stages.ReservedCore = 3
stage_weight rank busy stages.ReservedMaximum = 3
stage_weight rank busy stages.ReservedBare = 3
stage_weight rank busy stages.Working = if busy then 2 else (if rank == 0 then 2 else 1)
stage_weight rank busy (stages.Idle m) = 1
stage_weight rank busy stages.Dying = 4

abbrev pub slot_weight : ℕ → Option SlotRow → ℕ
slot_weight rank None = 0
slot_weight rank (Some r) = stage_weight rank (is_some r.task) r.stage

-- the table of what is owed, summed over tasks, slots and the pool
abbrev pub due : State → ℕ
due s = sum_by (task_weight s.slots) s.tasks + sum_by (slot_weight s.rank) s.slots + (4 - s.rank)

-- how many more entries the record may have
abbrev pub room : Config → State → ℕ
room c s = c.record_limit - s.steps

-- a task's fate: cancelled where it was cancelled, else what the entry that ended it gives
abbrev pub fate_of : TaskRow → Option Fate
fate_of r = if r.cancelled then Some fate.Cancelled else r.ending

abbrev pub is_fate : Fate → Option Fate → Bool
is_fate fate.Run (Some fate.Run) = true
is_fate fate.RunByCaller (Some fate.RunByCaller) = true
is_fate fate.Rejected (Some fate.Rejected) = true
is_fate fate.Discarded (Some fate.Discarded) = true
is_fate fate.HandedBack (Some fate.HandedBack) = true
is_fate fate.Removed (Some fate.Removed) = true
is_fate fate.Cancelled (Some fate.Cancelled) = true
is_fate _ _ = false

-- the result of a task that ran and was not cancelled
abbrev pub result_of_outcome : Option Outcome → Option (Result ℤ PoolError)
result_of_outcome None = None
result_of_outcome (Some (Ok v)) = Some (Ok v)
result_of_outcome (Some (Err code)) = Some (Err (Faulted code))

-- what the future of a task answers (`Future.get`): None while it is open, its value, or the refusal that says why there is none
abbrev pub result_of : TaskRow → Option (Result ℤ PoolError)
result_of r = by_fate (fate_of r)
  where
    by_fate : Option Fate → Option (Result ℤ PoolError)
    by_fate None = None
    by_fate (Some fate.Cancelled) = Some (Err CancelledTask)
    by_fate (Some fate.Run) = result_of_outcome r.outcome
    by_fate (Some fate.RunByCaller) = result_of_outcome r.outcome
    by_fate (Some f) = Some (Err (Lost f))

-- the sum of two counts, by the first alone: with no task left out it computes to the second
abbrev pub more_by : ℕ → ℕ → ℕ
more_by zero n = n
more_by (suc k) n = suc (more_by k n)

-- the number of tasks with this fate, those that are left out among them
abbrev pub fated : Fate → State → ℕ
fated f s = more_by (s.forgotten f) (count_by (λ r. is_fate f (fate_of r)) s.tasks)

-- the twelve counters, those of `ThreadPoolExecutor` among them
abbrev pub counts : State → Counts
counts s =
    record {
      submitted = length s.tasks;
      run = fated fate.Run s;
      caller = fated fate.RunByCaller s;
      rejected = fated fate.Rejected s;
      discarded = fated fate.Discarded s;
      handedback = fated fate.HandedBack s;
      removed = fated fate.Removed s;
      cancelled = fated fate.Cancelled s;
      completed = s.completions;
      queued = length s.queue;
      live = count_by is_live s.slots;
      largest = s.largest;
    }
