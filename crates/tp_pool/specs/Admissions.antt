-- What submissions come to, and what they add to their caller's pass.
use Rattle.std.specs.Prelude.{ℕ, Bool, true, ◌≡◌, ◌⊎◌, ◌≤◌, List, [], ◌∷◌, ◌++◌, length, Option, Some, option_map, Result, IfOk, ⊤}
use Rattle.tp_types.specs.declared.configs.Config.{Config}
use Rattle.tp_types.specs.declared.configs.Verdict.{Verdict}
use Rattle.tp_types.specs.declared.ids.TaskId.{TaskId}
use Rattle.tp_types.specs.declared.refusals.PoolError.TheVariants as error
use Rattle.tp_types.specs.declared.tasks.Kind.{Kind}
use Rattle.tp_types.specs.declared.tasks.Promise.{Promise}
use Rattle.tp_record.specs.declared.entries.Ask.{Ask}
use Rattle.tp_record.specs.declared.entries.Ask.TheVariants as ask
use Rattle.tp_record.specs.declared.entries.Did.{Did}
use Rattle.tp_record.specs.declared.entries.Did.TheVariants as did
use Rattle.tp_record.specs.declared.entries.Entry.{Entry}
use Rattle.tp_record.specs.declared.entries.Looked.{Looked}
use Rattle.tp_record.specs.Paths.{Admission, Accepted, RanHere, Discarded, Rejected, Follow, Then, Astray, IsPath}
use Rattle.tp_record.specs.Step.{allows}
use Rattle.tp_machine_state.specs.Payloads.{PutsIn}
use Rattle.tp_protocols.specs.Fronts.{IsFront, follow_of, goes}
use Rattle.tp_protocols.specs.declared.paths.Next.{Next}
use Rattle.tp_protocols.specs.declared.paths.Next.TheVariants as next
use Rattle.tp_machine.specs.Answers.{ComesBack}
use Rattle.tp_glance.specs.Word.{IsFrontOf}
use Rattle.tp_book.specs.PassView.{PassView}
use Rattle.tp_pool_holds.specs.Passes.{Adds, AddsNone, IsRefusal, Refuses, opening}
use Rattle.tp_pool_holds.specs.Steps.{Makes}
use Rattle.tp_pool_holds.specs.declared.answers.Admitted.{Admitted}
use Rattle.tp_pool_holds.specs.declared.answers.Admitted.TheVariants as admitted
use Rattle.tp_pool_holds.specs.declared.answers.Refused.{Refused}
use Rattle.tp_pool_holds.specs.declared.tasks.Payload.{Payload}
use Rattle.tp_pool_holds.specs.Submitting.{IsHalted, TakesOut}

-- whose submission was admitted, and how it ended
abbrev pub task_of : Admitted → TaskId
task_of (admitted.Accepted t) = t
task_of (admitted.RanHere t o) = t
task_of (admitted.Discarded t) = t

abbrev pub end_of : Admitted → Admission
end_of (admitted.Accepted t) = Accepted
end_of (admitted.RanHere t o) = RanHere o
end_of (admitted.Discarded t) = Discarded

-- the first of these is asked as the submission of a task of this kind and priority
abbrev pub AsksFor : Kind → ℕ → List Entry → Type 0
AsksFor kind priority [] = ⊥
AsksFor kind priority (e ∷ es) = e.ask ≡ ask.Submit kind priority

-- it is so at the priority that a job is asked for: 0, or the number that it names
abbrev pub AtPriority : ℕ → (ℕ → Type 0) → Type 0
AtPriority urgency F = (priority : ℕ) × ((priority ≡ 0) ⊎ (priority ≡ urgency)) × F priority

-- the pool got this job as task t, with this promise: by a step `submit` of the pass, at a history between the two
pub record GotJob {J : Type 0} (c : Config) (kind : Kind) (priority : ℕ) (job : J) (promise : Promise) (by t : ℕ) (before after : List Entry) : Type 0 where
  pub task : Payload J
  pub look : Looked
  pub then_history : List Entry
  pub has_job : task.job ≡ job
  pub number : TaskId
  pub is_task : number.0 ≡ t
  pub makes : Makes J c by before (ask.Submit kind priority) (did.Submit number kind priority look) (λ old new. PutsIn old new t promise task) then_history
  pub goes_on : IsFrontOf then_history after

-- so it is with this job, or with none
abbrev pub IsJobOut : {J : Type 0} → Config → ℕ → ℕ → Option J → List Entry → List Entry → Type 0
IsJobOut {J} c by t job before after = (payload : Option (Payload J)) × (job ≡ option_map (λ k. k.job) payload) × TakesOut c by t payload before after

-- a further step is to follow
abbrev pub Awaits : Follow → Type 0
Awaits (Then fits) = ⊤
Awaits _ = ⊥

-- the pass has the receipts of the whole path of this task, which is of this kind and priority, and the path ends so
abbrev pub AddsPath : Config → Kind → ℕ → TaskId → Admission → PassView → PassView → Type 0
AddsPath c kind priority t a old new = (steps : List Entry) × IsPath t.0 steps a × AsksFor kind priority steps × Adds c old steps new

-- what the submitter of task t asks by this deed, in a pool with these settings: its verdict is one that their policy allows
abbrev pub IsAskOf : Config → TaskId → Next → Ask → Type 0
IsAskOf c t next.Look a = a ≡ ask.Look t
IsAskOf c t next.Offer a = a ≡ ask.Offer t
IsAskOf c t next.Second a = a ≡ ask.Second t
IsAskOf c t next.Grow a = a ≡ ask.Grow t
IsAskOf c t next.Judge a = (v : Verdict) × (a ≡ ask.Verdict t v) × (allows c.policy v ≡ true)
IsAskOf c t (next.Staff w) a = (staffed : Bool) × (a ≡ opening w staffed)
IsAskOf c t _ a = ⊥

-- the deed is left undone: as this pass knows it the pool refuses what it asks, or it was to tell how the submitter's own run ended
abbrev pub IsUndone : Bool → Config → TaskId → Next → PassView → Type 0
IsUndone keeps c t n p = ((a : Ask) × IsAskOf c t n a × IsHalted keeps c p a) ⊎ (n ≡ next.RunHere)

-- the pass has the receipts of a front of the path of this task, which is of this kind and priority, behind which this deed was to follow
pub record AddsFront (keeps : Bool) (c : Config) (kind : Kind) (priority : ℕ) (t : TaskId) (old new : PassView) : Type 0 where
  pub front : List Entry
  pub deed : Next
  pub is_front : IsFront t.0 front (follow_of t.0 deed)
  pub awaits : Awaits (follow_of t.0 deed)
  pub asks : AsksFor kind priority front
  -- it has no more: the deed is left undone, or no submission makes as many steps; or it has one more, which was not to follow there
  pub adds : (Adds c old front new × (IsUndone keeps c t deed new ⊎ (512 ≤ length front)))
      ⊎ ((e : Entry) × (goes t.0 (follow_of t.0 deed) e.did ≡ Astray) × Adds c old (front ++ e ∷ []) new)

module _ {J : Type 0} (c : Config) (kind : Kind) (priority : ℕ) (job : J) (promise : Promise) (old new : PassView) where
  -- a submission of this kind and priority with this job, which promises this, is admitted
  abbrev pub IsAdmitted : Admitted → Type 0
  IsAdmitted a = AddsPath c kind priority (task_of a) (end_of a) old new × GotJob c kind priority job promise old.number (task_of a).0 old.front new.front

module _ {J : Type 0} (keeps : Bool) (c : Config) (kind : Kind) (priority : ℕ) (job : J) (promise : Promise) (old new : PassView) where
  -- it is refused: after its whole path, with the job that its verdict took out of the pool's book, unless its task was cancelled; or torn off on it; or before its first step, and then
  -- with the job
  abbrev pub IsTurnedAway : Refused J → Type 0
  IsTurnedAway refused =
      ((t : TaskId) × (refused.error ≡ error.Rejected t) × AddsPath c kind priority t Rejected old new × GotJob c kind priority job promise old.number t.0 old.front new.front × ComesBack t.0 refused.job new.front × IsJobOut c old.number t.0 refused.job old.front new.front)
      ⊎ ((t : TaskId) × (refused.error ≡ error.TornRecord) × AddsFront keeps c kind priority t old new × GotJob c kind priority job promise old.number t.0 old.front new.front)
      ⊎ (Refuses true c ⊤ new (ask.Submit kind priority) refused.error × (refused.job ≡ Some job) × AddsNone old new)

-- where a submission of this kind answers an admission, it is one of this job, at the priority that the job is asked for
abbrev pub Admits : {J : Type 0} → Config → Kind → ℕ → J → Promise → PassView → PassView → Result Admitted (Refused J) → Type 0
Admits c kind urgency job promise old new r = IfOk r (λ a. AtPriority urgency (λ priority. IsAdmitted c kind priority job promise old new a))
