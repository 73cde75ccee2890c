-- The laws of legal records, in the record's words. A history lists the entries latest first, and each front of a record
-- is a tail of its history, so what is said of every legal history is said of every front.
use Rattle.std.specs.Prelude.{◌≡◌, nat_lt, ◌≤◌, ◌+◌, ◌⊎◌, ◌||◌, ℕ, Bool, true, false, not, List, [], ◌∷◌, ◌++◌, length, Option, Some, None, Ok, count_by, is_some, ⊤, if◌then◌else◌}
use Rattle.std.specs.List.{list_any}
use Rattle.tp_types.specs.declared.configs.Config.{Config}
use Rattle.tp_types.specs.declared.configs.QueueKind.{QueueKind}
use Rattle.tp_types.specs.declared.configs.QueueKind.TheVariants.{Handoff, Unbounded, Bounded, Priority}
use Rattle.tp_types.specs.declared.tasks.Fate.{Fate}
use Rattle.tp_types.specs.declared.tasks.Fate.TheVariants as fate
use Rattle.tp_types.specs.Queues.{is_ranked}
use Rattle.tp_record.specs.declared.entries.Entry.{Entry}
use Rattle.tp_record.specs.declared.entries.Ask.TheVariants as ask
use Rattle.tp_record.specs.declared.entries.Did.{Did}
use Rattle.tp_record.specs.declared.entries.Did.TheVariants as did
use Rattle.tp_record.specs.declared.entries.Opened.TheVariants as opened
use Rattle.tp_record.specs.declared.entries.Ruled.TheVariants as ruled
use Rattle.tp_record.specs.declared.entries.Took.TheVariants as took
use Rattle.tp_record.specs.Lists.{is_it, is_among, count_from, IsOnce}
use Rattle.tp_record.specs.Effects.{sets_core, sets_maximum}
use Rattle.tp_record.specs.Fields.{rank, last_set}
use Rattle.tp_record.specs.State.{state}
use Rattle.tp_record.specs.Step.{fitting}
use Rattle.tp_record.specs.Words.{owes_look, was_cancelled, is_submitted, priority_of, waiting_line, with_submitter, waits_in_queue, in_slot, is_in, is_at_caller, is_gone, begun, is_begun, finishings, queued_by, is_stop, wakes, idle_since, is_slot_now, has_fate, with_fate, submissions, slot_numbers, reserved_by}

-- Places

-- how many of these hold
abbrev pub number_of : Bool → Bool → Bool → Bool → Bool → ℕ
number_of a b c d e =
    (if a then 1 else 0) + (if b then 1 else 0) + (if c then 1 else 0) + (if d then 1 else 0) + (if e then 1 else 0)

-- in how many places t is: with its submitter, in the queue, in a slot, at its caller, gone
abbrev pub number_of_places : List Entry → ℕ → ℕ
number_of_places h t =
    number_of (is_some (with_submitter h t)) (waits_in_queue h t) (is_some (in_slot h t)) (is_at_caller h t) (is_gone h t)

-- each submitted task is in exactly one place
abbrev pub OnePlace : List Entry → Type 0
OnePlace h = (t : ℕ) → is_submitted h t ≡ true → number_of_places h t ≡ 1

-- at most one entry begins a task
abbrev pub BeginsOnce : List Entry → Type 0
BeginsOnce h = (t : ℕ) → length (begun h t) ≤ 1

-- at most one entry finishes a task
abbrev pub FinishesOnce : List Entry → Type 0
FinishesOnce h = (t : ℕ) → finishings h t ≤ 1

-- where a task is in a slot, the slot is there, and no other task is in it
abbrev pub OneTaskASlot : List Entry → Type 0
OneTaskASlot h = (w t : ℕ) → is_in h w t ≡ true → (is_slot_now h w ≡ true) × ((u : ℕ) → is_in h w u ≡ true → u ≡ t)

-- The queue

-- at most one entry puts a task in the queue
abbrev pub QueuedOnce : List Entry → Type 0
QueuedOnce h = (t : ℕ) → count_by (λ e. is_it (queued_by e.did) t) h ≤ 1

-- the task that leaves the queue by order: a worker takes it, or it is dropped as the oldest
abbrev pub leaves_in_turn : Did → Option ℕ
leaves_in_turn (did.Take w (took.Head u)) = Some u.0
leaves_in_turn (did.Verdict t v (ruled.RetryDrop u)) = Some u.0
leaves_in_turn _ = None

-- who leaves by order is the first that waits
abbrev pub FirstLeaves : Config → Entry → List Entry → Type 0
FirstLeaves c e h = (u : ℕ) → leaves_in_turn e.did ≡ Some u → (rest : List ℕ) × (waiting_line c h ≡ u ∷ rest)

-- where t was put in the queue before u, and u leaves by order, t has left
abbrev pub QueueOrder : Entry → List Entry → Entry → List Entry → Entry → List Entry → Type 0
QueueOrder e after queues_u between queues_t before =
    (t u : ℕ) → queued_by queues_t.did ≡ Some t → queued_by queues_u.did ≡ Some u → leaves_in_turn e.did ≡ Some u →
    waits_in_queue (after ++ queues_u ∷ (between ++ queues_t ∷ before)) t ≡ false

-- where u leaves a priority queue by order, no task waits whose priority is smaller
abbrev pub NoneBefore : Config → Entry → List Entry → Type 0
NoneBefore c e h =
    is_ranked c.queue ≡ true → (t u : ℕ) → leaves_in_turn e.did ≡ Some u → waits_in_queue h t ≡ true → priority_of h u ≤ priority_of h t

-- where t was put in the queue before u, whose priority is the same, and u leaves by order, t has left: in each queue
abbrev pub FirstOfEquals : Entry → List Entry → Entry → List Entry → Entry → List Entry → Type 0
FirstOfEquals e after queues_u between queues_t before =
    let h = after ++ queues_u ∷ (between ++ queues_t ∷ before) in
    (t u : ℕ) → queued_by queues_t.did ≡ Some t → queued_by queues_u.did ≡ Some u → leaves_in_turn e.did ≡ Some u →
    priority_of h t ≡ priority_of h u → waits_in_queue h t ≡ false

-- the queue lists just the tasks that wait, each once
abbrev pub ListsThoseWaiting : Config → List Entry → Type 0
ListsThoseWaiting c h = IsOnce (waiting_line c h) × ((t : ℕ) → is_among t (waiting_line c h) ≡ waits_in_queue h t)

-- no task stands in a priority queue behind one whose priority number is greater
abbrev pub LeastFirst : Config → List Entry → Type 0
LeastFirst c h =
    is_ranked c.queue ≡ true → (ahead between behind : List ℕ) (t u : ℕ) →
    waiting_line c h ≡ ahead ++ t ∷ (between ++ u ∷ behind) → priority_of h t ≤ priority_of h u

-- an entry puts t in the queue, and a later one u
pub record IsQueuedBefore (h : List Entry) (t u : ℕ) : Type 0 where
  pub after : List Entry
  pub queues_u : Entry
  pub between : List Entry
  pub queues_t : Entry
  pub before : List Entry
  pub whole : h ≡ after ++ queues_u ∷ (between ++ queues_t ∷ before)
  pub first : queued_by queues_t.did ≡ Some t
  pub second : queued_by queues_u.did ≡ Some u

-- tasks stand in the order of their offers: in a priority queue those whose priority is the same, in any other queue all
abbrev pub OffersInOrder : Config → List Entry → Type 0
OffersInOrder c h =
    (ahead between behind : List ℕ) (t u : ℕ) → waiting_line c h ≡ ahead ++ t ∷ (between ++ u ∷ behind) →
    (is_ranked c.queue ≡ true → priority_of h t ≡ priority_of h u) → IsQueuedBefore h t u

-- so many tasks fit the queue: none where it has no places
abbrev pub IsWithin : QueueKind → ℕ → Type 0
IsWithin Handoff n = n ≡ 0
IsWithin Unbounded n = ⊤
IsWithin Priority n = ⊤
IsWithin (Bounded places) n = n ≤ places

-- the queue never exceeds its capacity
abbrev pub QueueWithinCapacity : Config → List Entry → Type 0
QueueWithinCapacity c h = IsWithin c.queue (length (waiting_line c h))

-- Slots

-- the number of slots, reserved and live
abbrev pub slots_now : List Entry → ℕ
slots_now h = count_by (is_slot_now h) (count_from 0 (slot_numbers h))

-- the maximum in force
abbrev pub maximum_now : Config → List Entry → ℕ
maximum_now c h = last_set sets_maximum c.maximum h

-- what laws ask of settings, whatever the limit of a pool's recorder: the maximum is 1 at least, the core size is no greater, and a record has
-- room for 64 entries
pub record HasGoodSizes (c : Config) : Type 0 where
  pub least_maximum : 1 ≤ c.maximum
  pub greatest_core : c.core ≤ c.maximum
  pub least_limit : 64 ≤ c.record_limit

-- an entry that reserves a slot leaves at most as many as the maximum
abbrev pub SlotsWithinMaximum : Config → Entry → List Entry → Type 0
SlotsWithinMaximum c e h = is_some (reserved_by e.did) ≡ true → slots_now (e ∷ h) ≤ maximum_now c (e ∷ h)

-- an entry that loses a worker to be: the factory made none, or it came after the pool was shut down
abbrev pub loses_worker : Did → Bool
loses_worker (did.Fail w f) = true
loses_worker (did.Open w opened.GivenUp) = true
loses_worker (did.Open w (opened.GivenUpRefuse t)) = true
loses_worker _ = false

-- where no worker was lost, and the pool runs or is shut down, each task in the queue owes a second look or there is a slot
abbrev pub Served : List Entry → Type 0
Served h =
    list_any (λ e. loses_worker e.did) h ≡ false → rank h ≤ 1 → (t : ℕ) → waits_in_queue h t ≡ true →
    (owes_look h t ≡ true) ⊎ ((w : ℕ) × (is_slot_now h w ≡ true))

-- where the pool is shut down and has no slot, a task waits in the queue and the core size is above 0, a prestart reserves a slot, unless the record
-- has no room for it. A task that owes a second look is one that waits, too
abbrev pub RescueServes : Config → List Entry → Type 0
RescueServes c h =
    rank h ≡ 1 → ((w : ℕ) → is_slot_now h w ≡ false) → (t : ℕ) → waits_in_queue h t ≡ true → 1 ≤ last_set sets_core c.core h →
    (w : ℕ) → fitting c (state c h) w ask.Prestart ≡ Ok (did.Prestart (Some (record { 0 = w })))

-- Run states

-- an entry by which a pool without slots goes on to its terminated hook, and one that says that the hook has run
abbrev pub is_tidy : Did → Bool
is_tidy did.Tidy = true
is_tidy _ = false

abbrev pub is_ended : Did → Bool
is_ended did.Ended = true
is_ended _ = false

abbrev pub TidyOnce : List Entry → Type 0
TidyOnce h = count_by (λ e. is_tidy e.did) h ≤ 1

abbrev pub EndedOnce : List Entry → Type 0
EndedOnce h = count_by (λ e. is_ended e.did) h ≤ 1

-- no slot is left in any front after a `tidy`
abbrev pub NoSlotsAfterTidy : List Entry → Entry → List Entry → Type 0
NoSlotsAfterTidy later e h = is_tidy e.did ≡ true → (w : ℕ) → is_slot_now (later ++ e ∷ h) w ≡ false

-- an entry shuts the pool down or stops it, and an entry stops it
abbrev pub was_shut_down : List Entry → Bool
was_shut_down h = list_any (λ e. wakes e.did) h

abbrev pub was_stopped : List Entry → Bool
was_stopped h = list_any (λ e. is_stop e.did) h

-- no slot is idle once the pool is shut down or stopped
abbrev pub NoIdleAfterShutdown : List Entry → Type 0
NoIdleAfterShutdown h = was_shut_down h ≡ true → (w : ℕ) → idle_since h w ≡ None

-- nor is one in the order of idling, by which tasks are handed over
abbrev pub NoneIdling : Config → List Entry → Type 0
NoneIdling c h = was_shut_down h ≡ true → (state c h).idling ≡ []

-- a task that is not submitted when the pool is shut down or stopped never begins
abbrev pub NothingBeginsAfterShutdown : List Entry → List Entry → Type 0
NothingBeginsAfterShutdown later h =
    was_shut_down h ≡ true → (t : ℕ) → is_submitted h t ≡ false → is_begun (later ++ h) t ≡ false

-- a task that a `stop` finds in the queue never begins
abbrev pub StoppedNeverBegins : List Entry → Entry → List Entry → Type 0
StoppedNeverBegins later e h = is_stop e.did ≡ true → (t : ℕ) → waits_in_queue h t ≡ true → is_begun (later ++ e ∷ h) t ≡ false

-- a task that is put in the queue of a stopped pool never begins
abbrev pub QueuedLateNeverBegins : List Entry → Entry → List Entry → Type 0
QueuedLateNeverBegins later e h = was_stopped h ≡ true → (t : ℕ) → queued_by e.did ≡ Some t → is_begun (later ++ e ∷ h) t ≡ false

-- each task in the queue of a stopped pool owes its second look
abbrev pub SecondLookOwedAfterStop : List Entry → Type 0
SecondLookOwedAfterStop h = 2 ≤ rank h → (t : ℕ) → waits_in_queue h t ≡ true → owes_look h t ≡ true

-- once the pool is tidying, each open task is with its submitter, at its caller or in the queue
abbrev pub OwedAfterTidy : List Entry → Type 0
OwedAfterTidy h =
    3 ≤ rank h → (t : ℕ) → is_submitted h t ≡ true → is_gone h t ≡ false →
    (is_some (with_submitter h t) || is_at_caller h t || waits_in_queue h t) ≡ true

-- Fates

-- a task has at most one fate
abbrev pub FatesAreDisjoint : List Entry → Type 0
FatesAreDisjoint h = (f g : Fate) (t : ℕ) → has_fate f h t ≡ true → has_fate g h t ≡ true → f ≡ g

-- a fate that a front gives, each longer record gives
abbrev pub FateNeverChanges : List Entry → List Entry → Type 0
FateNeverChanges later h = (f : Fate) (t : ℕ) → has_fate f h t ≡ true → has_fate f (later ++ h) t ≡ true

-- a task that is gone has a fate
abbrev pub GoneHasFate : List Entry → Type 0
GoneHasFate h = (t : ℕ) → is_gone h t ≡ true → (f : Fate) × (has_fate f h t ≡ true)

-- a task with a fate is gone, or was cancelled
abbrev pub FatedIsGone : List Entry → Type 0
FatedIsGone h = (f : Fate) (t : ℕ) → has_fate f h t ≡ true → was_cancelled h t ≡ false → is_gone h t ≡ true

-- submissions are numbered from 0 in their order
abbrev pub NumberedInOrder : List Entry → Type 0
NumberedInOrder h = (t : ℕ) → is_submitted h t ≡ nat_lt t (submissions h)

-- a task without a fate
abbrev pub is_open : List Entry → ℕ → Bool
is_open h t =
    not (has_fate fate.Run h t || has_fate fate.RunByCaller h t || has_fate fate.Rejected h t || has_fate fate.Discarded h t
    || has_fate fate.HandedBack h t || has_fate fate.Removed h t || has_fate fate.Cancelled h t)

-- the number of submitted tasks without a fate
abbrev pub open_tasks : List Entry → ℕ
open_tasks h = count_by (is_open h) (count_from 0 (submissions h))

-- submissions are the tasks of each fate and the open ones together
abbrev pub SubmissionsAddUp : List Entry → Type 0
SubmissionsAddUp h =
    submissions h
    ≡ with_fate fate.Run h + with_fate fate.RunByCaller h + with_fate fate.Rejected h + with_fate fate.Discarded h
    + with_fate fate.HandedBack h + with_fate fate.Removed h + with_fate fate.Cancelled h + open_tasks h
