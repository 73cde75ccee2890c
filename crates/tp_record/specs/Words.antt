-- What the record says, in the words of the rules: each thing by itself, apart from the working tables of Effects and
-- Fields. A history lists the entries latest first, so 'later' entries stand in front.
use Rattle.std.specs.Prelude.{ℕ, ℤ, suc, ◌==◌, max, Bool, true, false, not, ◌&&◌, ◌||◌, List, [], ◌∷◌, ◌++◌, filter, length, count_by, drop, Option, Some, None, Result, Err, is_some, is_none, option_to_list, if◌then◌else◌}
use Rattle.std.specs.List.{list_any}
use Rattle.tp_types.specs.declared.configs.Config.{Config}
use Rattle.tp_types.specs.declared.tasks.Kind.{Kind}
use Rattle.tp_types.specs.declared.tasks.Kind.TheVariants as kinds
use Rattle.tp_types.specs.declared.tasks.Place.{Place}
use Rattle.tp_types.specs.declared.tasks.Place.TheVariants as at
use Rattle.tp_types.specs.declared.tasks.Fate.{Fate}
use Rattle.tp_types.specs.declared.tasks.Fate.TheVariants as fate
use Rattle.tp_types.specs.declared.states.Counts.{Counts}
use Rattle.tp_types.specs.Queues.{is_ranked}
use Rattle.tp_record.specs.declared.entries.Entry.{Entry}
use Rattle.tp_record.specs.declared.entries.Did.{Did}
use Rattle.tp_record.specs.declared.entries.Did.TheVariants as did
use Rattle.tp_record.specs.declared.entries.Looked.TheVariants as looked
use Rattle.tp_record.specs.declared.entries.Offered.TheVariants as offered
use Rattle.tp_record.specs.declared.entries.Seconded.TheVariants as seconded
use Rattle.tp_record.specs.declared.entries.Grown.TheVariants as grown
use Rattle.tp_record.specs.declared.entries.Ruled.TheVariants as ruled
use Rattle.tp_record.specs.declared.entries.Opened.TheVariants as opened
use Rattle.tp_record.specs.declared.entries.Failed.TheVariants as failed
use Rattle.tp_record.specs.declared.entries.Took.TheVariants as took
use Rattle.tp_record.specs.declared.entries.Started.TheVariants as started
use Rattle.tp_record.specs.declared.rows.Stage.{Stage}
use Rattle.tp_record.specs.declared.rows.Stage.TheVariants as stages
use Rattle.tp_record.specs.Lists.{is_it, count_from, in_line}

-- what is said of x, if it is x that is named
abbrev pub of_it : {A : Type 0} → Option (ℕ × A) → ℕ → Option A
of_it None x = None
of_it (Some p) x = if x == p.0 then Some p.1 else None

-- What one entry does to a task

-- the task that it submits
abbrev pub submitted_by : Did → Option ℕ
submitted_by (did.Submit t k p l) = Some t.0
submitted_by _ = None

-- the task that it puts in the queue
abbrev pub queued_by : Did → Option ℕ
queued_by (did.Offer t offered.Queued) = Some t.0
queued_by _ = None

-- the task that it puts in a slot, and the slot
abbrev pub seated_by : Did → Option (ℕ × ℕ)
seated_by (did.Submit t k p (looked.Reserve w)) = Some (t.0, w.0)
seated_by (did.Look t (looked.Reserve w)) = Some (t.0, w.0)
seated_by (did.Grow t (grown.Reserve w)) = Some (t.0, w.0)
seated_by (did.Offer t (offered.Hand w)) = Some (t.0, w.0)
seated_by (did.Take w (took.Head t)) = Some (t.0, w.0)
seated_by _ = None

-- the task that it gives to its submitter, and what the submitter is to do with it
abbrev pub returned_by : Did → Option (ℕ × Place)
returned_by (did.Submit t k p looked.Queue) = Some (t.0, at.ToOffer)
returned_by (did.Submit t k p looked.Refuse) = Some (t.0, at.Refused)
returned_by (did.Look t looked.Queue) = Some (t.0, at.ToOffer)
returned_by (did.Look t looked.Refuse) = Some (t.0, at.Refused)
returned_by (did.Offer t offered.Full) = Some (t.0, at.ToGrow)
returned_by (did.Second t seconded.Back) = Some (t.0, at.Refused)
returned_by (did.Grow t grown.Refuse) = Some (t.0, at.Refused)
returned_by (did.Open w (opened.GivenUpRefuse t)) = Some (t.0, at.Refused)
returned_by (did.Fail w (failed.Offer t)) = Some (t.0, at.ToOffer)
returned_by (did.Fail w (failed.Refuse t)) = Some (t.0, at.Refused)
returned_by (did.Verdict t v ruled.Retry) = Some (t.0, at.Looking)
returned_by (did.Verdict t v (ruled.RetryDrop u)) = Some (t.0, at.Looking)
returned_by _ = None

-- the task that it begins
abbrev pub begun_by : Did → Option ℕ
begun_by (did.Begin w (started.Run t)) = Some t.0
begun_by (did.Verdict t v ruled.Caller) = Some t.0
begun_by _ = None

-- the task that it finishes; a `stop` and a `purge` finish tasks that they do not name
abbrev pub finished_by : Did → Option ℕ
finished_by (did.End w t o) = Some t.0
finished_by (did.CallerEnd t o) = Some t.0
finished_by (did.Begin w (started.Skip t)) = Some t.0
finished_by (did.Verdict t v ruled.Rejected) = Some t.0
finished_by (did.Verdict t v ruled.Discarded) = Some t.0
finished_by (did.Verdict t v ruled.Skip) = Some t.0
finished_by (did.Verdict u v (ruled.RetryDrop t)) = Some t.0
finished_by (did.Remove t true) = Some t.0
finished_by _ = None

-- the task that it cancels
abbrev pub cancelled_by : Did → Option ℕ
cancelled_by (did.Cancel t flag true) = Some t.0
cancelled_by _ = None

abbrev pub is_stop : Did → Bool
is_stop (did.Stop n) = true
is_stop _ = false

abbrev pub is_purge : Did → Bool
is_purge (did.Purge n) = true
is_purge _ = false

-- Tasks

-- an entry submits t
abbrev pub is_submitted : List Entry → ℕ → Bool
is_submitted h t = list_any (λ e. is_it (submitted_by e.did) t) h

-- the number of entries that submit
abbrev pub submissions : List Entry → ℕ
submissions h = count_by (λ e. is_some (submitted_by e.did)) h

abbrev pub kind_submitted : Did → Option (ℕ × Kind)
kind_submitted (did.Submit t k p l) = Some (t.0, k)
kind_submitted _ = None

abbrev pub or_else : {A : Type 0} → Option A → A → A
or_else None a = a
or_else (Some b) a = b

-- the kind in the entry that submits t
abbrev pub kind_of : List Entry → ℕ → Kind
kind_of [] t = kinds.Plain
kind_of (e ∷ h) t = or_else (of_it (kind_submitted e.did) t) (kind_of h t)

abbrev pub priority_submitted : Did → Option (ℕ × ℕ)
priority_submitted (did.Submit t k p l) = Some (t.0, p)
priority_submitted _ = None

-- the priority in the entry that submits t
abbrev pub priority_of : List Entry → ℕ → ℕ
priority_of [] t = 0
priority_of (e ∷ h) t = or_else (of_it (priority_submitted e.did) t) (priority_of h t)

-- an entry cancels t
abbrev pub was_cancelled : List Entry → ℕ → Bool
was_cancelled h t = list_any (λ e. is_it (cancelled_by e.did) t) h

-- the entry takes t out of the queue, where it is there
abbrev pub takes_out : Did → Bool → ℕ → Bool
takes_out (did.Take w (took.Head u)) cancelled t = t == u.0
takes_out (did.Second u seconded.Back) cancelled t = t == u.0
takes_out (did.Verdict u v (ruled.RetryDrop x)) cancelled t = t == x.0
takes_out (did.Remove u true) cancelled t = t == u.0
takes_out (did.Stop n) cancelled t = true
takes_out (did.Purge n) cancelled t = cancelled
takes_out _ cancelled t = false

-- t was put in the queue (`BlockingQueue.offer`), and no later entry takes it out: a worker, a second look, a drop, a `remove`, any `stop`, or
-- a `purge` that stands after an entry that cancels it
abbrev pub waits_in_queue : List Entry → ℕ → Bool
waits_in_queue [] t = false
waits_in_queue (e ∷ h) t =
    if takes_out e.did (was_cancelled h t) t then false
    else (is_it (queued_by e.did) t || waits_in_queue h t)

-- the tasks that were put in the queue, in the order of these entries
abbrev pub offers_in_order : List Entry → List ℕ
offers_in_order [] = []
offers_in_order (e ∷ h) = offers_in_order h ++ option_to_list (queued_by e.did)

-- those of them that wait
abbrev pub waiting : List Entry → List ℕ
waiting h = filter (waits_in_queue h) (offers_in_order h)

-- the queue, as `getQueue` would list it: in a priority queue the least priority first, and of equal ones the earlier offer
abbrev pub waiting_line : Config → List Entry → List ℕ
waiting_line c h = in_line (is_ranked c.queue) (priority_of h) (waiting h)

-- the entry, after the history, finishes t
abbrev pub finishes : Entry → List Entry → ℕ → Bool
finishes e h t =
    is_it (finished_by e.did) t
    || (is_stop e.did && waits_in_queue h t)
    || (is_purge e.did && waits_in_queue h t && was_cancelled h t)

-- an entry finishes t
abbrev pub is_gone : List Entry → ℕ → Bool
is_gone [] t = false
is_gone (e ∷ h) t = finishes e h t || is_gone h t

-- the slot that the last entry names which puts t in a slot, where no later entry gives t to its submitter or finishes it
abbrev pub in_slot : List Entry → ℕ → Option ℕ
in_slot [] t = None
in_slot (e ∷ h) t =
    if is_some (of_it (returned_by e.did) t) || finishes e h t then None
    else by_seat (of_it (seated_by e.did) t) (in_slot h t)
  where
    by_seat : Option ℕ → Option ℕ → Option ℕ
    by_seat (Some w) before = Some w
    by_seat None before = before

-- the entry's worker takes t from the queue, or from its slot
abbrev pub takes_head : Did → ℕ → Bool
takes_head (did.Take w (took.Head u)) t = t == u.0
takes_head _ t = false

abbrev pub takes_held : Did → ℕ → Bool
takes_held (did.Take w (took.Held u)) t = t == u.0
takes_held _ t = false

-- the last entry that puts t in a slot is that its worker takes it from the queue, or a later one that it takes it from
-- the slot
abbrev pub was_taken : List Entry → ℕ → Bool
was_taken [] t = false
was_taken (e ∷ h) t =
    if is_some (of_it (seated_by e.did) t) then takes_head e.did t
    else (takes_held e.did t || was_taken h t)

-- an entry after the last that puts t in a slot begins it there
abbrev pub begins_there : Did → ℕ → Bool
begins_there (did.Begin w (started.Run u)) t = t == u.0
begins_there _ t = false

abbrev pub was_begun_there : List Entry → ℕ → Bool
was_begun_there [] t = false
was_begun_there (e ∷ h) t =
    if is_some (of_it (seated_by e.did) t) then false
    else (begins_there e.did t || was_begun_there h t)

-- t is in slot w: running, taken, or else held
abbrev pub is_in : List Entry → ℕ → ℕ → Bool
is_in h w t = is_it (in_slot h t) w

abbrev pub is_running_in : List Entry → ℕ → ℕ → Bool
is_running_in h w t = is_in h w t && was_begun_there h t

abbrev pub is_taken_in : List Entry → ℕ → ℕ → Bool
is_taken_in h w t = is_in h w t && not (was_begun_there h t) && was_taken h t

abbrev pub is_held_in : List Entry → ℕ → ℕ → Bool
is_held_in h w t = is_in h w t && not (was_begun_there h t) && not (was_taken h t)

-- what the submitter of t is to do with it: the last entry that gives t to its submitter has no later entry that puts t
-- in the queue or a slot, begins it or finishes it
abbrev pub with_submitter : List Entry → ℕ → Option Place
with_submitter [] t = None
with_submitter (e ∷ h) t =
    by_return (of_it (returned_by e.did) t)
    (if is_it (queued_by e.did) t || is_some (of_it (seated_by e.did) t) || is_it (begun_by e.did) t || finishes e h t
    then None else with_submitter h t)
  where
    by_return : Option Place → Option Place → Option Place
    by_return (Some p) before = Some p
    by_return None before = before

-- a verdict lets the submitter run t, and it has not ended it (`CallerRunsPolicy`)
abbrev pub calls : Did → ℕ → Bool
calls (did.Verdict u v ruled.Caller) t = t == u.0
calls _ t = false

abbrev pub ends_call : Did → ℕ → Bool
ends_call (did.CallerEnd u o) t = t == u.0
ends_call _ t = false

abbrev pub is_at_caller : List Entry → ℕ → Bool
is_at_caller [] t = false
is_at_caller (e ∷ h) t = if ends_call e.did t then false else (calls e.did t || is_at_caller h t)

-- the entries that begin t
abbrev pub begun : List Entry → ℕ → List Entry
begun h t = filter (λ e. is_it (begun_by e.did) t) h

abbrev pub is_begun : List Entry → ℕ → Bool
is_begun h t = list_any (λ e. is_it (begun_by e.did) t) h

-- an offer of t is accepted
abbrev pub accepts_offer : Did → ℕ → Bool
accepts_offer (did.Offer u offered.Queued) t = t == u.0
accepts_offer (did.Offer u (offered.Hand w)) t = t == u.0
accepts_offer _ t = false

abbrev pub looks_again : Did → ℕ → Bool
looks_again (did.Second u s) t = t == u.0
looks_again _ t = false

-- an accepted offer of t has no later second look (the recheck in `execute`)
abbrev pub owes_look : List Entry → ℕ → Bool
owes_look [] t = false
owes_look (e ∷ h) t = if looks_again e.did t then false else (accepts_offer e.did t || owes_look h t)

abbrev pub retries_it : Did → ℕ → Bool
retries_it (did.Verdict u v ruled.Retry) t = t == u.0
retries_it (did.Verdict u v (ruled.RetryDrop x)) t = t == u.0
retries_it _ t = false

-- the number of entries by which t is to look again
abbrev pub retry_count : List Entry → ℕ → ℕ
retry_count h t = count_by (λ e. retries_it e.did t) h

-- the number of entries that finish t
abbrev pub finishings : List Entry → ℕ → ℕ
finishings [] t = 0
finishings (e ∷ h) t = if finishes e h t then suc (finishings h t) else finishings h t

-- a submitted task whose payload is kept: not begun, not cancelled, not gone
abbrev pub is_waiting : List Entry → ℕ → Bool
is_waiting h t = is_submitted h t && not (is_begun h t) && not (was_cancelled h t) && not (is_gone h t)

-- Slots

-- the slot that an entry reserves, and what for: for the core after `submit` or `look`, for the maximum after `grow`,
-- bare after `second`, `leave` or `prestart`
abbrev pub reserved_by : Did → Option (ℕ × Stage)
reserved_by (did.Submit t k p (looked.Reserve w)) = Some (w.0, stages.ReservedCore)
reserved_by (did.Look t (looked.Reserve w)) = Some (w.0, stages.ReservedCore)
reserved_by (did.Grow t (grown.Reserve w)) = Some (w.0, stages.ReservedMaximum)
reserved_by (did.Second t (seconded.StayReserve w)) = Some (w.0, stages.ReservedBare)
reserved_by (did.Leave v (Some w)) = Some (w.0, stages.ReservedBare)
reserved_by (did.Prestart (Some w)) = Some (w.0, stages.ReservedBare)
reserved_by _ = None

-- the entry frees slot w
abbrev pub lets_go : Did → ℕ → Bool
lets_go (did.Fail v f) w = w == v.0
lets_go (did.Open v opened.GivenUp) w = w == v.0
lets_go (did.Open v (opened.GivenUpRefuse t)) w = w == v.0
lets_go (did.Take v took.Leave) w = w == v.0
lets_go (did.Leave v o) w = w == v.0
lets_go _ w = false

-- what the last reservation of w is for, where no later entry frees it
abbrev pub slot_for : List Entry → ℕ → Option Stage
slot_for [] w = None
slot_for (e ∷ h) w = by_reservation (of_it (reserved_by e.did) w) (if lets_go e.did w then None else slot_for h w)
  where
    by_reservation : Option Stage → Option Stage → Option Stage
    by_reservation (Some p) before = Some p
    by_reservation None before = before

abbrev pub is_slot_now : List Entry → ℕ → Bool
is_slot_now h w = is_some (slot_for h w)

abbrev pub opens : Did → ℕ → Bool
opens (did.Open v opened.Live) w = w == v.0
opens _ w = false

-- w was opened live after its last reservation
abbrev pub was_opened : List Entry → ℕ → Bool
was_opened [] w = false
was_opened (e ∷ h) w = if is_some (of_it (reserved_by e.did) w) then false else (opens e.did w || was_opened h w)

-- a slot with `open w live` after its reservation, as `getPoolSize` counts
abbrev pub is_live_now : List Entry → ℕ → Bool
is_live_now h w = is_slot_now h w && was_opened h w

-- an entry names slot w
abbrev pub names_slot : Did → ℕ → Bool
names_slot (did.Submit t k p (looked.Reserve v)) w = w == v.0
names_slot (did.Look t (looked.Reserve v)) w = w == v.0
names_slot (did.Offer t (offered.Hand v)) w = w == v.0
names_slot (did.Second t (seconded.StayReserve v)) w = w == v.0
names_slot (did.Grow t (grown.Reserve v)) w = w == v.0
names_slot (did.Open v o) w = w == v.0
names_slot (did.Fail v f) w = w == v.0
names_slot (did.Take v k) w = w == v.0
names_slot (did.Begin v b) w = w == v.0
names_slot (did.End v t o) w = w == v.0
names_slot (did.Leave v None) w = w == v.0
names_slot (did.Leave v (Some u)) w = w == v.0 || w == u.0
names_slot (did.Prestart (Some v)) w = w == v.0
names_slot _ w = false

-- a live slot with a task in it, as `getActiveCount` counts
abbrev pub is_busy : List Entry → ℕ → Bool
is_busy h w = is_live_now h w && list_any (is_in h w) (count_from 0 (submissions h))

abbrev pub takes_nothing : Did → Bool
takes_nothing (did.Take w took.Idle) = true
takes_nothing _ = false

abbrev pub wakes : Did → Bool
wakes did.Shutdown = true
wakes (did.Stop n) = true
wakes _ = false

-- the last tick
abbrev pub ticked : Did → Option ℕ
ticked (did.Tick n) = Some n
ticked _ = None

abbrev pub moment : List Entry → ℕ
moment [] = 0
moment (e ∷ h) = or_else (ticked e.did) (moment h)

-- since when w is idle: the last entry that names it is that it takes nothing, no `shutdown` or `stop` is later, and the
-- moment is that of the front before it
abbrev pub idle_since : List Entry → ℕ → Option ℕ
idle_since [] w = None
idle_since (e ∷ h) w =
    if names_slot e.did w then (if takes_nothing e.did then Some (moment h) else None)
    else (if wakes e.did then None else idle_since h w)

abbrev pub faults_plain : Did → List Entry → Bool
faults_plain (did.End w t (Err code)) h = is_plain_kind (kind_of h t.0)
  where
    is_plain_kind : Kind → Bool
    is_plain_kind kinds.Plain = true
    is_plain_kind _ = false
faults_plain _ h = false

-- the last entry that names w ends a plain task with a fault, as a task of `execute` that throws ends its worker
abbrev pub is_dying : List Entry → ℕ → Bool
is_dying [] w = false
is_dying (e ∷ h) w = if names_slot e.did w then faults_plain e.did h else is_dying h w

-- a live slot that is neither busy nor idle nor dying
abbrev pub is_at_take : List Entry → ℕ → Bool
is_at_take h w = is_live_now h w && not (is_busy h w) && is_none (idle_since h w) && not (is_dying h w)

-- Fates

-- the task that an entry ends with this fate, cancelled and handed back aside
abbrev pub fated_by : Fate → Did → ℕ → Bool
fated_by fate.Run (did.End w u o) t = t == u.0
fated_by fate.RunByCaller (did.CallerEnd u o) t = t == u.0
fated_by fate.Rejected (did.Verdict u v ruled.Rejected) t = t == u.0
fated_by fate.Discarded (did.Verdict u v ruled.Discarded) t = t == u.0
fated_by fate.Discarded (did.Verdict u v (ruled.RetryDrop x)) t = t == x.0
fated_by fate.Removed (did.Remove u true) t = t == u.0
fated_by _ _ t = false

-- a `stop` finished t (`shutdownNow` hands it back)
abbrev pub was_drained : List Entry → ℕ → Bool
was_drained [] t = false
was_drained (e ∷ h) t = (is_stop e.did && waits_in_queue h t) || was_drained h t

-- t has this fate: it was cancelled (`Future.isCancelled`); or it was not, and an entry ended it so
abbrev pub has_fate : Fate → List Entry → ℕ → Bool
has_fate fate.Cancelled h t = was_cancelled h t
has_fate fate.HandedBack h t = not (was_cancelled h t) && was_drained h t
has_fate f h t = not (was_cancelled h t) && list_any (λ e. fated_by f e.did t) h

-- Completions

-- the task whose body an entry ends, at a worker or at its caller
abbrev pub body_ended_by : Did → Option ℕ
body_ended_by (did.End w t o) = Some t.0
body_ended_by (did.CallerEnd t o) = Some t.0
body_ended_by _ = None

abbrev pub outcome_by : Did → Option (ℕ × Result ℤ ℕ)
outcome_by (did.End w t o) = Some (t.0, o)
outcome_by (did.CallerEnd t o) = Some (t.0, o)
outcome_by _ = None

-- how the body of t ended, at a worker or at its caller
abbrev pub body_outcome : List Entry → ℕ → Option (Result ℤ ℕ)
body_outcome [] t = None
body_outcome (e ∷ h) t = by_end (of_it (outcome_by e.did) t) (body_outcome h t)
  where
    by_end : Option (Result ℤ ℕ) → Option (Result ℤ ℕ) → Option (Result ℤ ℕ)
    by_end (Some o) before = Some o
    by_end None before = before

abbrev pub is_in_group : ℕ → Kind → Bool
is_in_group g (kinds.Group n) = g == n
is_in_group g _ = false

abbrev pub keep_where : (ℕ → Bool) → Option ℕ → List ℕ
keep_where p None = []
keep_where p (Some t) = if p t then t ∷ [] else []

-- the tasks of group g in the order of their completion (`ExecutorCompletionService`): by the entry that cancels it, or by its end where no earlier
-- entry cancels it
abbrev pub completions_of : ℕ → List Entry → List ℕ
completions_of g [] = []
completions_of g (e ∷ h) =
    completions_of g h
    ++ keep_where (λ t. is_in_group g (kind_of h t)) (cancelled_by e.did)
    ++ keep_where (λ t. is_in_group g (kind_of h t) && not (was_cancelled h t)) (body_ended_by e.did)

abbrev pub takes_done : ℕ → Did → Bool
takes_done g (did.TakeDone n t) = g == n
takes_done g _ = false

-- those of them that no `takedone` of the group has taken: its takes go by order
abbrev pub done_in_group : ℕ → List Entry → List ℕ
done_in_group g h = drop (count_by (λ e. takes_done g e.did) h) (completions_of g h)

-- Counters

abbrev pub with_fate : Fate → List Entry → ℕ
with_fate f h = count_by (has_fate f h) (count_from 0 (submissions h))

-- a body that a worker ended, or a cancelled task that it skipped, as `getCompletedTaskCount` counts
abbrev pub is_completed_by : Did → Bool
is_completed_by (did.End w t o) = true
is_completed_by (did.Begin w (started.Skip t)) = true
is_completed_by _ = false

-- one more than the greatest slot number that was reserved
abbrev pub slot_numbers : List Entry → ℕ
slot_numbers [] = 0
slot_numbers (e ∷ h) = max (slot_numbers h) (above (reserved_by e.did))
  where
    above : Option (ℕ × Stage) → ℕ
    above None = 0
    above (Some p) = suc p.0

abbrev pub live_slots : List Entry → ℕ
live_slots h = count_by (is_live_now h) (count_from 0 (slot_numbers h))

abbrev pub largest_live : List Entry → ℕ
largest_live [] = 0
largest_live (e ∷ h) = max (live_slots (e ∷ h)) (largest_live h)

-- the twelve counters
abbrev pub counters : List Entry → Counts
counters h =
    record {
      submitted = submissions h;
      run = with_fate fate.Run h;
      caller = with_fate fate.RunByCaller h;
      rejected = with_fate fate.Rejected h;
      discarded = with_fate fate.Discarded h;
      handedback = with_fate fate.HandedBack h;
      removed = with_fate fate.Removed h;
      cancelled = with_fate fate.Cancelled h;
      completed = count_by (λ e. is_completed_by e.did) h;
      queued = length (waiting h);
      live = live_slots h;
      largest = largest_live h;
    }
