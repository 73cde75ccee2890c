-- What a pool's step is outside the lock, with the fronts of the pass that it was made with; and how the answers of calls say it.
-- What lies under a lock is known outside by its type alone, so an answer is so of the pool whose word the pass has a seat of.
-- 'At some legal record in the pool's settings' would forbid little: a `tick` that always answers 10 meets such a clause, and so
-- does an `await_termination` that always answers TimedOut.
use Rattle.std.specs.Prelude.{ℕ, Bool, ◌≡◌, List, All, length, map, ⊤, Option, Some, None, is_some, option_map, Result, Ok, Err, IfOk, IfErr, IfSome}
use Rattle.tp_types.specs.declared.configs.Config.{Config}
use Rattle.tp_types.specs.declared.ids.SlotId.{SlotId}
use Rattle.tp_types.specs.declared.ids.TaskId.{TaskId}
use Rattle.tp_types.specs.declared.refusals.PoolError.{PoolError}
use Rattle.tp_types.specs.declared.refusals.PoolError.TheVariants.{NotThere}
use Rattle.tp_record.specs.declared.entries.Ask.{Ask}
use Rattle.tp_record.specs.declared.entries.Ask.TheVariants as ask
use Rattle.tp_record.specs.declared.entries.Did.{Did}
use Rattle.tp_record.specs.declared.entries.Did.TheVariants as did
use Rattle.tp_record.specs.declared.entries.Entry.{Entry}
use Rattle.tp_record.specs.declared.entries.Took.{Took}
use Rattle.tp_record.specs.declared.entries.Took.TheVariants as took
use Rattle.tp_record.specs.Fields.{queue}
use Rattle.tp_record.specs.State.{State}
use Rattle.tp_tasks.specs.declared.tasks.Tasks.{Tasks}
use Rattle.tp_machine.specs.declared.answers.Begun.{Begun as Started}
use Rattle.tp_machine.specs.declared.answers.Begun.TheVariants as started
use Rattle.tp_machine.specs.Answers.{HandsBack, IsPaidAt, IsRemoval}
use Rattle.tp_machine.specs.Readings.{IsDyingAt}
use Rattle.tp_protocols.specs.declared.deeds.Departed.{Departed}
use Rattle.tp_protocols.specs.declared.deeds.Departed.TheVariants as departed
use Rattle.tp_protocols.specs.declared.deeds.EndAnswer.{EndAnswer}
use Rattle.tp_protocols.specs.declared.deeds.EndAnswer.TheVariants as ended
use Rattle.tp_protocols.specs.declared.turns.BeginAnswer.{BeginAnswer}
use Rattle.tp_protocols.specs.declared.turns.BeginAnswer.TheVariants as begun
use Rattle.tp_glance.specs.Word.{IsFrontOf}
use Rattle.tp_book.specs.BookView.{BookView, Advances, IsDenied}
use Rattle.tp_pool_holds.specs.Drains.{drained_of}
use Rattle.tp_pool_holds.specs.Moments.{IsBook}
use Rattle.tp_pool_holds.specs.declared.answers.Drained.{Drained}
use Rattle.tp_pool_holds.specs.declared.answers.Removal.{Removal}
use Rattle.tp_pool_holds.specs.declared.answers.Removal.TheVariants as removal
use Rattle.tp_pool_holds.specs.declared.locked.workers.Taking.{Taking}
use Rattle.tp_pool_holds.specs.declared.locked.workers.Taking.TheVariants as taking
use Rattle.tp_pool_holds.specs.declared.tasks.Payload.{Payload}

-- a pool with these settings makes this step for the pass of this number, at a history that goes on from what the pass knew; then
-- the pass knows the history with the step
pub record Makes (J : Type 0) (c : Config) (by : ℕ) (before : List Entry) (a : Ask) (d : Did) (moves : Tasks (Payload J) → Tasks (Payload J) → Type 0) (after : List Entry) : Type 0 where
  pub old : BookView (Payload J)
  pub new : BookView (Payload J)
  pub is : IsBook (Payload J) c old
  pub goes_on : IsFrontOf before old.history
  pub step : Advances old new by a d moves
  pub shown : after ≡ new.history

-- it refuses the ask, at a history that goes on from what the pass knew, and that the pass knows then
pub record Refused (J : Type 0) (keeps : Bool) (c : Config) (before : List Entry) (a : Ask) (e : PoolError) (after : List Entry) : Type 0 where
  pub book : BookView (Payload J)
  pub is : IsBook (Payload J) c book
  pub goes_on : IsFrontOf before book.history
  pub denied : IsDenied keeps book a e
  pub shown : after ≡ book.history

-- one of the two, and the call's answer says so of the step's
pub record Asks (J : Type 0) {A : Type 0} (keeps : Bool) (c : Config) (by : ℕ) (before : List Entry) (a : Ask) (did : A → Did) (moves : A → Tasks (Payload J) → Tasks (Payload J) → Type 0) (after : List Entry)
    (F : Result A PoolError → Type 0) : Type 0 where
  pub answer : Result A PoolError
  pub made : IfOk answer (λ x. Makes J c by before a (did x) (moves x) after)
  pub refused : IfErr answer (λ e. Refused J keeps c before a e after)
  pub holds : F answer

-- what a worker's `take` came to: one that is idle already stays so
abbrev pub taking_of : Result Took PoolError → Taking
taking_of (Ok (took.Held t)) = taking.Task
taking_of (Ok (took.Head t)) = taking.Task
taking_of (Ok took.Leave) = taking.Left
taking_of (Ok took.Idle) = taking.Sleeps
taking_of (Err NotThere) = taking.Sleeps
taking_of _ = taking.Refused

-- its `begin`
abbrev pub begun_of : {J : Type 0} → Result (Started (Payload J)) PoolError → BeginAnswer J
begun_of (Ok (started.Run t k)) = begun.Run t k.job
begun_of (Ok (started.Skip t)) = begun.Skip t
begun_of (Err e) = begun.Refused

-- its `end`, where the state is this afterwards
abbrev pub IsEndOf : State → ℕ → EndAnswer → Result TaskId PoolError → Type 0
IsEndOf s w ended.Dying (Ok t) = IsDyingAt s w
IsEndOf s w ended.Live (Ok t) = ¬ IsDyingAt s w
IsEndOf s w ended.Refused (Err e) = ⊤
IsEndOf _ _ _ _ = ⊥

-- its `leave`, after which a slot may be reserved in place of the one that was left
abbrev pub departed_of : Result (Option SlotId) PoolError → Departed
departed_of (Ok (Some next)) = departed.Replaced next
departed_of (Ok None) = departed.Alone
departed_of (Err e) = departed.Refused

-- what a remove hands back
abbrev pub removal_of : {J : Type 0} → Option (TaskId × Option (Payload J)) → Removal J
removal_of (Some handed) = removal.Yes (option_map (λ k. k.job) handed.1)
removal_of None = removal.No

-- the step `stop`, which hands back the tasks that were queued, in the queue's order, each with its job unless it was cancelled
pub record Stops (J : Type 0) (c : Config) (by : ℕ) (before : List Entry) (drained : List (Drained J)) (after : List Entry) : Type 0 where
  pub handed : List (TaskId × Option (Payload J))
  pub makes : Makes J c by before ask.Stop (did.Stop (length handed)) (λ old new. HandsBack old new handed) after
  pub order : map (λ x. x.0.0) handed ≡ queue c makes.old.history
  pub paid : All (IsPaidAt makes.old.history) handed
  pub listed : drained ≡ map drained_of handed

-- the step `remove`, which hands the job back where the task was queued, unless it was cancelled
pub record Removes (J : Type 0) (c : Config) (by : ℕ) (before : List Entry) (t : TaskId) (r : Removal J) (after : List Entry) : Type 0 where
  pub handed : Option (TaskId × Option (Payload J))
  pub makes : Makes J c by before (ask.Remove t) (did.Remove t (is_some handed)) (λ old new. IsRemoval old new t handed) after
  pub paid : IfSome handed (IsPaidAt makes.old.history)
  pub answers : r ≡ removal_of handed
