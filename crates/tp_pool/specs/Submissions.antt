-- What one submission of a job comes to.
use Rattle.std.specs.Prelude.{ℕ, Bool, ◌≡◌, ◌⊎◌, Result, Ok, Err}
use Rattle.tp_types.specs.declared.configs.Config.{Config}
use Rattle.tp_types.specs.declared.ids.TaskId.{TaskId}
use Rattle.tp_types.specs.declared.refusals.PoolError.{PoolError}
use Rattle.tp_types.specs.declared.tasks.Kind.{Kind}
use Rattle.tp_types.specs.declared.tasks.Kind.TheVariants as kind
use Rattle.tp_types.specs.declared.tasks.Promise.{Promise}
use Rattle.tp_record.specs.Effects.{Outcome}
use Rattle.tp_record.specs.Paths.{Accepted, RanHere, Discarded}
use Rattle.tp_book.specs.PassView.{PassView}
use Rattle.tp_pool_holds.specs.declared.answers.Refused.{Refused}
use Rattle.tp_pool.specs.Admissions.{AddsPath, AtPriority, GotJob, IsTurnedAway}

-- the whole path of this task of this kind and priority, which is admitted at its end: accepted, run by its submitter, or discarded
abbrev pub AddsSubmission : Config → Kind → ℕ → TaskId → PassView → PassView → Type 0
AddsSubmission c k p t old new = AddsPath c k p t Accepted old new ⊎ (((o : Outcome) × AddsPath c k p t (RanHere o) old new) ⊎ AddsPath c k p t Discarded old new)

-- that of this job, which promises this and names this priority
abbrev pub AddsJob : {J : Type 0} → Config → Kind → J → Promise → ℕ → TaskId → PassView → PassView → Type 0
AddsJob c k job promise urgency t old new = AtPriority urgency (λ p. AddsSubmission c k p t old new × GotJob c k p job promise old.number t.0 old.front new.front)

-- this job is submitted with a future, as this task; or it is refused so
module _ {J : Type 0} (keeps : Bool) (c : Config) (job : J) (promise : Promise) (urgency : ℕ) where
  abbrev pub Submits : Result TaskId PoolError → PassView → PassView → Type 0
  Submits (Ok t) old new = AddsJob c kind.Future job promise urgency t old new
  Submits (Err e) old new = (x : Refused J) × (x.error ≡ e) × AtPriority urgency (λ p. IsTurnedAway keeps c kind.Future p job promise old new x)
