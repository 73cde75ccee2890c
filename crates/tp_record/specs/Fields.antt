-- What the history says, by the working tables. A history is the record's list of entries, the latest first, so that
-- 'the last entry that ..' is the first that fits, and a front of the record is a tail of the history.
use Rattle.std.specs.Prelude.{ℕ, suc, max, Bool, true, false, ◌&&◌, List, [], ◌∷◌, filter, map, count_by, Option, Some, None, unwrap_or, if◌then◌else◌}
use Rattle.tp_types.specs.declared.configs.Config.{Config}
use Rattle.tp_types.specs.declared.ids.TaskId.{TaskId}
use Rattle.tp_types.specs.declared.tasks.Kind.{Kind}
use Rattle.tp_types.specs.declared.tasks.Kind.TheVariants as kinds
use Rattle.tp_types.specs.declared.tasks.Place.{Place}
use Rattle.tp_types.specs.declared.tasks.Place.TheVariants as at
use Rattle.tp_types.specs.declared.tasks.Fate.{Fate}
use Rattle.tp_types.specs.declared.tasks.Fate.TheVariants as fate
use Rattle.tp_types.specs.Queues.{is_ranked}
use Rattle.tp_record.specs.declared.entries.Entry.{Entry}
use Rattle.tp_record.specs.declared.entries.Did.{Did}
use Rattle.tp_record.specs.declared.entries.Did.TheVariants as did
use Rattle.tp_record.specs.declared.rows.Stage.{Stage}
use Rattle.tp_record.specs.declared.rows.Stage.TheVariants as stages
use Rattle.tp_record.specs.declared.rows.TaskRow.{TaskRow}
use Rattle.tp_record.specs.declared.rows.SlotRow.{SlotRow}
use Rattle.tp_record.specs.Lists.{said_of, is_it, at_end, count_from, in_line}
use Rattle.tp_record.specs.Effects.{Outcome, moved, queues, seconds, kinds_said, priorities_said, cancels, endings, outcomes, tries, is_submit, reserves, holds, turned, seated, idles, completes, hands_out, is_completion, is_plain_fault, reaches, sets_now}

-- what the last entry that says something of x says
abbrev pub last_said : {A : Type 0} → (Did → List (ℕ × A)) → A → List Entry → ℕ → A
last_said says first [] x = first
last_said says first (e ∷ h) x = unwrap_or (said_of x (says e.did)) (last_said says first h x)

-- what the last entry that sets it says
abbrev pub last_set : {A : Type 0} → (Did → Option A) → A → List Entry → A
last_set sets first [] = first
last_set sets first (e ∷ h) = unwrap_or (sets e.did) (last_set sets first h)

-- the greatest run state that an entry reaches (`runState` of `ThreadPoolExecutor`)
abbrev pub rank : List Entry → ℕ
rank [] = 0
rank (e ∷ h) = max (reaches e.did) (rank h)

-- the moment
abbrev pub now : List Entry → ℕ
now h = last_set sets_now 0 h

-- the number of submissions
abbrev pub submitted : List Entry → ℕ
submitted [] = 0
submitted (e ∷ h) = if is_submit e.did then suc (submitted h) else submitted h

-- the number of completions by workers
abbrev pub completions : List Entry → ℕ
completions [] = 0
completions (e ∷ h) = if is_completion e.did then suc (completions h) else completions h

abbrev pub kind : List Entry → ℕ → Kind
kind h t = last_said kinds_said kinds.Plain h t

abbrev pub priority : List Entry → ℕ → ℕ
priority h t = last_said priorities_said 0 h t

abbrev pub is_cancelled : List Entry → ℕ → Bool
is_cancelled h t = last_said cancels false h t

-- an accepted offer of t has no later second look
abbrev pub owes_second : List Entry → ℕ → Bool
owes_second h t = last_said seconds false h t

abbrev pub outcome : List Entry → ℕ → Option Outcome
outcome h t = last_said outcomes None h t

-- one more, or begun anew
abbrev pub counted : Option Bool → ℕ → ℕ
counted None n = n
counted (Some false) n = 0
counted (Some true) n = suc n

-- the retries of t since it was submitted
abbrev pub retries : List Entry → ℕ → ℕ
retries [] t = 0
retries (e ∷ h) t = counted (said_of t (tries e.did)) (retries h t)

abbrev pub is_queued_place : Place → Bool
is_queued_place at.Queued = true
is_queued_place _ = false

-- an entry finishes a task that it need not name: a `stop` each queued task, a `purge` each queued task that is cancelled
abbrev pub sweeps : Did → Bool → Place → Bool
sweeps (did.Stop n) cancelled p = is_queued_place p
sweeps (did.Purge n) cancelled p = is_queued_place p && cancelled
sweeps _ cancelled p = false

-- the place of a task that an entry does not name
abbrev pub swept : Did → Bool → Place → Place
swept d cancelled p = if sweeps d cancelled p then at.Gone else p

-- where t is: what the last entry that moves it says
abbrev pub place : List Entry → ℕ → Place
place [] t = at.Gone
place (e ∷ h) t = unwrap_or (said_of t (moved e.did)) (swept e.did (is_cancelled h t) (place h t))

-- the fate of a task that an entry does not name, cancelled aside
abbrev pub handed_back : Did → Place → Option Fate → Option Fate
handed_back (did.Stop n) p f = if is_queued_place p then Some fate.HandedBack else f
handed_back _ p f = f

-- the fate that the entry which ends t gives it, cancelled aside
abbrev pub ending : List Entry → ℕ → Option Fate
ending [] t = None
ending (e ∷ h) t = unwrap_or (said_of t (endings e.did)) (handed_back e.did (place h t) (ending h t))

abbrev pub is_queued : List Entry → ℕ → Bool
is_queued h t = is_queued_place (place h t)

-- the tasks that an entry puts in the queue, in the order of the last such entry of each
abbrev pub offered : List Entry → List ℕ
offered [] = []
offered (e ∷ h) = at_end (queues e.did) (offered h)

-- the offered tasks that no later entry takes out, in the order of their offers
abbrev pub queued : List Entry → List ℕ
queued h = filter (is_queued h) (offered h)

-- the queue: these, in a priority queue the least priority first, and of equal ones the earlier offer
abbrev pub queue : Config → List Entry → List ℕ
queue c h = in_line (is_ranked c.queue) (priority h) (queued h)

-- no slot is idle after a `shutdown` or a `stop`
abbrev pub woken_stage : Stage → Stage
woken_stage (stages.Idle m) = stages.Working
woken_stage s = s

abbrev pub woken : Did → Stage → Stage
woken did.Shutdown s = woken_stage s
woken (did.Stop n) s = woken_stage s
woken _ s = s

-- the stage of slot w: what the last entry that turns it says
abbrev pub stage : List Entry → ℕ → Stage
stage [] w = stages.Working
stage (e ∷ h) w = unwrap_or (said_of w (turned (now h) (is_plain_fault e.did (kind h)) e.did)) (woken e.did (stage h w))

-- the task in slot w
abbrev pub task_in : List Entry → ℕ → Option TaskId
task_in h w = last_said seated None h w

-- the last reservation of w has no later entry that frees it
abbrev pub is_slot : List Entry → ℕ → Bool
is_slot h w = last_said holds false h w

-- one more than the number that an entry reserves
abbrev pub reach : Option ℕ → ℕ
reach None = 0
reach (Some w) = suc w

-- every slot's number is below this
abbrev pub slot_bound : List Entry → ℕ
slot_bound [] = 0
slot_bound (e ∷ h) = max (slot_bound h) (reach (reserves e.did))

abbrev pub task_row : List Entry → ℕ → TaskRow
task_row h t =
    record {
      kind = kind h t;
      priority = priority h t;
      place = place h t;
      second = owes_second h t;
      cancelled = is_cancelled h t;
      ending = ending h t;
      outcome = outcome h t;
      retries = retries h t;
    }

-- slot w, None where w is no slot
abbrev pub slot_row : List Entry → ℕ → Option SlotRow
slot_row h w = if is_slot h w then Some (record { stage = stage h w; task = task_in h w }) else None

-- the submitted tasks by number
abbrev pub task_rows : List Entry → List TaskRow
task_rows h = map (task_row h) (count_from 0 (submitted h))

-- the slots by number
abbrev pub slot_rows : List Entry → List (Option SlotRow)
slot_rows h = map (slot_row h) (count_from 0 (slot_bound h))

abbrev pub is_idle_stage : Stage → Bool
is_idle_stage (stages.Idle m) = true
is_idle_stage _ = false

abbrev pub is_idle_row : Option SlotRow → Bool
is_idle_row None = false
is_idle_row (Some r) = is_idle_stage r.stage

abbrev pub is_idle : List Entry → ℕ → Bool
is_idle h w = is_idle_row (slot_row h w)

-- the slots that were ever idle, in the order of the last such entry of each
abbrev pub idled : List Entry → List ℕ
idled [] = []
idled (e ∷ h) = at_end (idles e.did) (idled h)

-- the idle slots, the one that is idle longest first (workers that wait in `getTask`)
abbrev pub idling : List Entry → List ℕ
idling h = filter (is_idle h) (idled h)

-- a completion of t is not yet handed out
abbrev pub is_done : List Entry → ℕ → Bool
is_done [] t = false
is_done (e ∷ h) t =
    if is_it (completes e.did (kind h) (is_cancelled h)) t then true
    else unwrap_or (said_of t (hands_out e.did)) (is_done h t)

-- the tasks of groups that were completed, in the order of their completion
abbrev pub completed : List Entry → List ℕ
completed [] = []
completed (e ∷ h) = at_end (completes e.did (kind h) (is_cancelled h)) (completed h)

-- the completed tasks of groups that are not yet handed out, in the order of their completion
abbrev pub done : List Entry → List ℕ
done h = filter (is_done h) (completed h)

-- an opened slot that has not left
abbrev pub is_live_stage : Stage → Bool
is_live_stage stages.Working = true
is_live_stage (stages.Idle m) = true
is_live_stage stages.Dying = true
is_live_stage _ = false

abbrev pub is_live : Option SlotRow → Bool
is_live None = false
is_live (Some r) = is_live_stage r.stage

-- the number of live slots
abbrev pub live : List Entry → ℕ
live h = count_by is_live (slot_rows h)

-- the greatest number of live slots that a front has (`getLargestPoolSize`)
abbrev pub largest : List Entry → ℕ
largest [] = 0
largest (e ∷ h) = max (live (e ∷ h)) (largest h)
