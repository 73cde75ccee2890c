-- All that holds of a legal record, in one place: for every configuration and every interleaving of submitters', workers'
-- and controllers' steps. A field for each law, in the order of docs/MODEL.md.
use Rattle.std.specs.Prelude.{◌≡◌, ◌≢◌, ◌+◌, ◌≤◌, ℕ, suc, true, false, List, ◌∷◌, ◌++◌, length, Err}
use Rattle.tp_types.specs.declared.configs.Config.{Config}
use Rattle.tp_types.specs.declared.refusals.PoolError.TheVariants.{BookFull}
use Rattle.tp_types.specs.Queues.{is_ranked}
use Rattle.tp_record.specs.declared.entries.Entry.{Entry}
use Rattle.tp_record.specs.declared.entries.Ask.{Ask}
use Rattle.tp_record.specs.Fields.{rank}
use Rattle.tp_record.specs.State.{state, due}
use Rattle.tp_record.specs.Step.{step, IsFreeTo}
use Rattle.tp_laws.specs.Room.{lowers, is_owed}
use Rattle.tp_laws.specs.Laws.{OnePlace, BeginsOnce, FinishesOnce, OneTaskASlot, FatesAreDisjoint, FateNeverChanges, GoneHasFate, FatedIsGone, NumberedInOrder, SubmissionsAddUp, QueuedOnce, FirstLeaves, QueueOrder, NoneBefore, FirstOfEquals, ListsThoseWaiting, LeastFirst, OffersInOrder, NothingBeginsAfterShutdown, StoppedNeverBegins, QueuedLateNeverBegins, NoIdleAfterShutdown, NoneIdling, TidyOnce, EndedOnce, NoSlotsAfterTidy, SecondLookOwedAfterStop, OwedAfterTidy, Served, SlotsWithinMaximum, QueueWithinCapacity}

-- at each front of the record, the whole record among them, with the entries that come later
abbrev pub AtEachFront : List Entry → (List Entry → List Entry → Type 0) → Type 0
AtEachFront h F = (later front : List Entry) → h ≡ later ++ front → F later front

-- at each entry of the record, with the entries that come later and the front before it
abbrev pub AtEachEntry : List Entry → (List Entry → Entry → List Entry → Type 0) → Type 0
AtEachEntry h F = (later : List Entry) (e : Entry) (front : List Entry) → h ≡ later ++ e ∷ front → F later e front

pub record IsLawful (c : Config) (h : List Entry) : Type 0 where
  -- each task is in one place, begins at most once and is finished at most once, and no slot has two
  pub one_place : AtEachFront h (λ later front. OnePlace front)
  pub begins_once : AtEachFront h (λ later front. BeginsOnce front)
  pub finishes_once : AtEachFront h (λ later front. FinishesOnce front)
  pub one_task_a_slot : AtEachFront h (λ later front. OneTaskASlot front)
  -- fates
  pub fates_are_disjoint : AtEachFront h (λ later front. FatesAreDisjoint front)
  pub fate_never_changes : AtEachFront h FateNeverChanges
  pub gone_has_fate : AtEachFront h (λ later front. GoneHasFate front)
  pub fated_is_gone : AtEachFront h (λ later front. FatedIsGone front)
  pub numbered_in_order : AtEachFront h (λ later front. NumberedInOrder front)
  pub submissions_add_up : AtEachFront h (λ later front. SubmissionsAddUp front)
  -- the queue
  pub queued_once : AtEachFront h (λ later front. QueuedOnce front)
  pub first_leaves : AtEachEntry h (λ later e front. FirstLeaves c e front)
  pub queue_order : is_ranked c.queue ≡ false → AtEachEntry h (λ later e front. (after between before : List Entry) (queues_u queues_t : Entry) →
      front ≡ after ++ queues_u ∷ (between ++ queues_t ∷ before) → QueueOrder e after queues_u between queues_t before)
  pub none_before : AtEachEntry h (λ later e front. NoneBefore c e front)
  pub first_of_equals : AtEachEntry h (λ later e front. (after between before : List Entry) (queues_u queues_t : Entry) →
      front ≡ after ++ queues_u ∷ (between ++ queues_t ∷ before) → FirstOfEquals e after queues_u between queues_t before)
  pub lists_those_waiting : AtEachFront h (λ later front. ListsThoseWaiting c front)
  pub least_first : AtEachFront h (λ later front. LeastFirst c front)
  pub offers_in_order : AtEachFront h (λ later front. OffersInOrder c front)
  -- after a shutdown or a stop
  pub nothing_begins_after_shutdown : AtEachFront h NothingBeginsAfterShutdown
  pub stopped_never_begins : AtEachEntry h StoppedNeverBegins
  pub queued_late_never_begins : AtEachEntry h QueuedLateNeverBegins
  pub no_idle_after_shutdown : AtEachFront h (λ later front. NoIdleAfterShutdown front)
  pub none_idling : AtEachFront h (λ later front. NoneIdling c front)
  -- the end of the pool
  pub tidy_once : AtEachFront h (λ later front. TidyOnce front)
  pub ended_once : AtEachFront h (λ later front. EndedOnce front)
  pub no_slots_after_tidy : AtEachFront h (λ later front. AtEachEntry front NoSlotsAfterTidy)
  pub second_look_owed_after_stop : AtEachFront h (λ later front. SecondLookOwedAfterStop front)
  pub owed_after_tidy : AtEachFront h (λ later front. OwedAfterTidy front)
  -- workers, and the sizes
  pub served : AtEachFront h (λ later front. Served front)
  pub slots_within_maximum : AtEachEntry h (λ later e front. SlotsWithinMaximum c e front)
  pub queue_within_capacity : AtEachFront h (λ later front. QueueWithinCapacity c front)
  -- room: for all that is owed, which each step that is owed lowers, so that none is refused for want of room
  pub room_is_enough : AtEachFront h (λ later front. length front + due (state c front) ≤ c.record_limit)
  pub owed_falls : AtEachEntry h (λ later e front. lowers (rank front) e.did ≡ true → suc (due (state c (e ∷ front))) ≤ due (state c front))
  pub never_short_of_room : AtEachFront h (λ later front. (w : ℕ) (a : Ask) → is_owed (rank front) a ≡ true →
      IsFreeTo (state c front) a w → step c (state c front) w a ≢ Err BookFull)
