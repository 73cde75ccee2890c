-- What the calls of a service add to their caller's pass.
use Rattle.std.specs.Prelude.{ℕ, ℤ, Bool, true, ◌≡◌, ◌⊎◌, ◌<◌, List, ◌∷◌, ◌++◌, length, Any, Err}
use Rattle.tp_types.specs.declared.configs.Config.{Config}
use Rattle.tp_types.specs.declared.ids.TaskId.{TaskId}
use Rattle.tp_types.specs.declared.refusals.PoolError.{PoolError}
use Rattle.tp_types.specs.declared.refusals.PoolError.TheVariants as error
use Rattle.tp_types.specs.declared.tasks.Kind.TheVariants as kind
use Rattle.tp_types.specs.declared.tasks.Promise.{Promise}
use Rattle.tp_record.specs.declared.entries.Ask.TheVariants as ask
use Rattle.tp_record.specs.declared.entries.Did.TheVariants as did
use Rattle.tp_book.specs.PassView.{PassView}
use Rattle.tp_pool_holds.specs.Passes.{AddsNone, AddsStep, Refuses}
use Rattle.tp_pool_holds.specs.declared.tasks.Payload.{Payload}
use Rattle.tp_pool.specs.Submissions.{AddsJob, Submits}
use Rattle.tp_pool.specs.Turns.{Through, ThroughBoth}
use Rattle.tp_service.specs.Futures.{IsClosed, HasValue, CloseAll, HaveFailed}

-- P is what the pool keeps of a job, keeps says whether it keeps its record, c are its settings
module _ (P : Type 0) (keeps : Bool) (c : Config) where
  -- the step that cancels this task with its flag; or none, where at the pass's new front its future is not open or the step is refused
  abbrev pub AddsCancel : TaskId → PassView → PassView → Type 0
  AddsCancel t old new =
      ((effective : Bool) × AddsStep c old (ask.Cancel t true) (did.Cancel t true effective) new)
      ⊎ (AddsNone old new × (IsClosed P keeps c new t ⊎ ((e : PoolError) × Refuses keeps c (old.room < 1) new (ask.Cancel t true) e)))

  -- that of each of these tasks, one after another
  abbrev pub AddsCancels : List TaskId → PassView → PassView → Type 0
  AddsCancels ts old new = Through AddsCancel ts old new

-- the pass looks, and at its new front one of these is late
abbrev pub IsOneLate : (PassView → TaskId → Type 0) → List TaskId → PassView → PassView → Type 0
IsOneLate late ts old new = AddsNone old new × Any (late new) ts

-- c are the pool's settings, and a job promises so and names this priority
module _ {J : Type 0} (c : Config) (promised : J → Promise) (urgency : J → ℕ) where
  -- these jobs are submitted with futures, one after another, as tasks of these numbers
  abbrev pub AddsSubmissions : List J → List TaskId → PassView → PassView → Type 0
  AddsSubmissions jobs ts old new = ThroughBoth (λ job t. AddsJob c kind.Future job (promised job) (urgency job) t) jobs ts old new

-- and keeps says whether the pool keeps its record
module _ {J : Type 0} (keeps : Bool) (c : Config) (promised : J → Promise) (urgency : J → ℕ) where
  -- the first of these jobs were submitted, the next one was refused so, and those before it are cancelled
  pub record IsTurnedBack (jobs : List J) (e : PoolError) (old new : PassView) : Type 0 where
    pub before : List J
    pub job : J
    pub behind : List J
    pub are : jobs ≡ before ++ job ∷ behind
    pub earlier : List TaskId
    pub submitted : PassView
    pub refused : PassView
    pub submits : AddsSubmissions c promised urgency before earlier old submitted
    pub refuses : Submits keeps c job (promised job) (urgency job) (Err e) submitted refused
    pub cancels : AddsCancels (Payload J) keeps c earlier refused new

  -- these jobs are not all submitted: for want of memory before the first, or since one was refused
  abbrev pub AreTurnedBack : List J → PoolError → PassView → PassView → Type 0
  AreTurnedBack jobs e old new = ((e ≡ error.NoMemory) × (new ≡ old)) ⊎ IsTurnedBack jobs e old new

  -- all these jobs are submitted, and then the pass finds each of their futures not open
  abbrev pub IsAll : List J → List TaskId → PassView → PassView → Type 0
  IsAll jobs ts old new = (mid : PassView) × AddsSubmissions c promised urgency jobs ts old mid × CloseAll (Payload J) keeps c ts mid new

  -- all are submitted, and then found not open; or one of them is late, and all are cancelled
  abbrev pub IsAllUntil : (PassView → TaskId → Type 0) → List J → List TaskId → PassView → PassView → Type 0
  IsAllUntil late jobs ts old new =
      IsAll jobs ts old new
      ⊎ ((mid : PassView) × (told : PassView) × AddsSubmissions c promised urgency jobs ts old mid × IsOneLate late ts mid told × AddsCancels (Payload J) keeps c ts told new)

  -- these jobs are submitted; at a later front of the pass one of them has this value, and then all are cancelled
  pub record IsAnyValue (jobs : List J) (v : ℤ) (old new : PassView) : Type 0 where
    pub tasks : List TaskId
    pub mid : PassView
    pub told : PassView
    pub submits : AddsSubmissions c promised urgency jobs tasks old mid
    pub looks : AddsNone mid told
    pub value : Any (HasValue (Payload J) c v told) tasks
    pub cancels : AddsCancels (Payload J) keeps c tasks told new

  -- these jobs are submitted, one at least, and none has a value
  pub record IsNoValue (jobs : List J) (e : PoolError) (old new : PassView) : Type 0 where
    pub some : 0 < length jobs
    pub tasks : List TaskId
    pub mid : PassView
    pub told : PassView
    pub submits : AddsSubmissions c promised urgency jobs tasks old mid
    pub looks : AddsNone mid told
    pub failed : HaveFailed (Payload J) keeps c tasks e told new

  -- none of these jobs gives a value: there are none; or they are not all submitted; or none of them has one
  abbrev pub HasNoValue : List J → PoolError → PassView → PassView → Type 0
  HasNoValue jobs e old new =
      ((length jobs ≡ 0) × (e ≡ error.NoTasks) × (new ≡ old)) ⊎ (((0 < length jobs) × AreTurnedBack jobs e old new) ⊎ IsNoValue jobs e old new)
